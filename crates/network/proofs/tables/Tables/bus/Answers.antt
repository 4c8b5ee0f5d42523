use Rattle.network.proofs.tables.Tables.bus.Goals as goal

pub bus_at-requires : goal.bus_at-requires
bus_at-requires c = c.bus_start.ensures.1

pub returns : goal.returns
returns c = rw (c.bus_at.ensures, c.bus_bounded-bounded.ensures, c.bus_start.ensures.0)
