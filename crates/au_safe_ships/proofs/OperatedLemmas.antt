-- Operations on numbers and truth values under way.
use Rattle.std.proofs.Common.{ℕ, List, ◌∷◌, Option, Some}
use Rattle.std.specs.Prelude.{None}
use Rattle.au_ints.specs.declared.operations.Order.TheVariants as order
use Rattle.au_effects.specs.Numbers.{compared, computed, negated}
use Rattle.au_types.specs.Types.{integer, truth}
use Rattle.au_type_texts.specs.Types.{ClosedType}
use Rattle.au_memory.specs.Forests.{Made}
use Rattle.au_memory.specs.Loans.{Types}
use Rattle.au_borrows.specs.Orders.{Act}
use Rattle.au_running_judgements.specs.Frames.{Frame, hold_at, type_at}
use Rattle.au_meaning.specs.Worlds.{World}
use Rattle.au_running_judgements.proofs.OperationLemmas as operations
use Rattle.au_running_judgements.specs.Good.{lying_in}
use Rattle.au_running_judgements.proofs.CallLemmas.{comes_safely}
use Rattle.au_safe_ships.specs.Operated.{ComparesWell, ComputesWell, EquatesWell, NegatesWell}

module _ (types : Types) (owner : ClosedType → Option (List ℕ)) (acts : List Act) (fs : List Frame)
    (sizes : List ℕ) (under : Made) (w : World) (ticks : ℕ) where
  pub computes_well : ComputesWell types owner acts fs sizes under w ticks
  computes_well typed op kind a b state =
      comes_safely types owner acts fs sizes under w ticks (integer kind) (computed op kind a b)
      (operations.computes ClosedType types owner acts (hold_at fs) (type_at fs) under (lying_in w) sizes w.store typed op
      kind a b state)

  pub compares_well : ComparesWell types owner acts fs sizes under w ticks
  compares_well typed op kind a b state =
      comes_safely types owner acts fs sizes under w ticks truth (compared op (Some kind) a b)
      (operations.compares ClosedType types owner acts (hold_at fs) (type_at fs) under (lying_in w) sizes w.store typed op
      kind a b state)

  pub equates_well : EquatesWell types owner acts fs sizes under w ticks
  equates_well typed order.Equal a b is state =
      comes_safely types owner acts fs sizes under w ticks truth (compared order.Equal None a b)
      (operations.compares_truths ClosedType types owner acts (hold_at fs) (type_at fs) under (lying_in w) sizes w.store
      typed a b state).0
  equates_well typed order.NotEqual a b is state =
      comes_safely types owner acts fs sizes under w ticks truth (compared order.NotEqual None a b)
      (operations.compares_truths ClosedType types owner acts (hold_at fs) (type_at fs) under (lying_in w) sizes w.store
      typed a b state).1
  equates_well typed order.Less a b is state = absurd is
  equates_well typed order.LessEqual a b is state = absurd is
  equates_well typed order.Greater a b is state = absurd is
  equates_well typed order.GreaterEqual a b is state = absurd is

  pub negates_well : NegatesWell types owner acts fs sizes under w ticks
  negates_well typed a state =
      comes_safely types owner acts fs sizes under w ticks truth (negated a)
      (operations.negates ClosedType types owner acts (hold_at fs) (type_at fs) under (lying_in w) sizes w.store typed a
      state)
