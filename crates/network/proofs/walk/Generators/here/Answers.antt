use Rattle.network.proofs.walk.Generators.here.Goals as goal

pub returns : goal.returns
returns c =
    let read = c.generator_of.ensures in
    record { is = rw c.args.self.now.counted at read.is; bus = read.bus; points = read.points; curve = read.curve }
