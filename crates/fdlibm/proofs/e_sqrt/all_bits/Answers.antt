use Rattle.std.proofs.Common.{◌≡◌, suc, ◌-◌, ◌^◌, sym, ◌∙◌, arith}
use Rattle.std.proofs.lemmas.Nat.{one_shl}
use Rattle.fdlibm.specs.Sqrt.{next_bit, bit_by_bit, start}
use Rattle.fdlibm.proofs.Turns.{Good, good_step, turns, one_more_is}
use Rattle.fdlibm.proofs.e_sqrt.all_bits.Goals as goal

pub loop-place-preserved : goal.loop-place-preserved
loop-place-preserved c =
    let l = c.loop-place in
    let k = l.place - 1 in
    let e : l.place ≡ suc k = omega arith in
    let g : Good (suc k) l.v = rw e at l.invariant.0 in
    let t : turns (suc k) l.v ≡ turns 54 (start c.args.ix) = rw e at l.invariant.1 in
    let n : c.next_bit-v.result ≡ next_bit (2 ^ k) l.v = rw (← one_shl k 64 (omega arith)) c.next_bit-v.ensures in
    rw n (good_step k l.v g, sym (one_more_is k l.v) ∙ t)

pub returns-clause-value : goal.returns-clause-value
unfolding bit_by_bit
returns-clause-value c = let z : c.loop-place.place ≡ 0 = omega arith in rw z at c.loop-place.invariant.1
