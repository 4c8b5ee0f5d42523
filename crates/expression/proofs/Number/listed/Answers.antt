-- `expression::Number::listed` meets its contract.
use lib.Ieee.{nan, binary64, to_bits, of_bits}
use lib.Ieee.Bits.{of_bits-to_bits}
use Rattle.expression.proofs.Number.listed.Goals as goal

pub returns : goal.returns
unfolding to_bits of_bits
returns c =
    let found = c.in_ok-get.ensures.lookup.3 in
    record {
      within = found.0;
      is = rw (found.1 nan);
      by_pattern = rw (found.1 nan) (of_bits-to_bits binary64 _ (c.type_inv.numbers c.args.load));
    }
