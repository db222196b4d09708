use Rattle.std.proofs.Common.{◌≡◌, Bool, drop}
use Rattle.au_syntax.specs.Plain.{Bytes}
use Rattle.au_lives.specs.Lives.{Hold, held_from}
use Rattle.au_lives.specs.Paths.{bound_names}
use Rattle.au_clearing.specs.Seen.{seen_binds}
use Rattle.au_clearing.specs.Deals.{seen_at}
use Rattle.au_clearing.proofs.declaring.forget_binds.Given as goal

-- where those behind are hidden, all are hidden in the deals of before
abbrev pub invariant-loop-one : goal.invariant-loop-one
invariant-loop-one g l = record {
  seen : (x : Bytes) (free : Bool) (h : Hold) →
      seen_at l.deals x free (held_from x (bound_names (seen_binds g.P.Phase (drop l.one-index l.one-items))) h)
      ≡ seen_at l.initial.deals x free (held_from x (bound_names (seen_binds g.P.Phase l.one-items)) h);
  returns : l.deals.returns ≡ l.initial.deals.returns;
}
