-- How a machine goes on after a shipped call.
use Rattle.std.proofs.Common.{◌≡◌, ℕ, ◌+◌, List, [], ◌∷◌, ◌++◌, reverse, Option, Some, None, refl, ap, ◌∙◌}
use Rattle.au_effects.specs.Values.{unit}
use Rattle.au_effects.specs.Answers.{Answer, gives, writes, waits, aborts, none}
use Rattle.au_effects.specs.Calls.{given, use_of}
use Rattle.au_low.specs.Machines as machine
use Rattle.au_low.specs.Machines.{Low, LowWorld, Machine, onward, in_world, pushed}
use Rattle.au_low.specs.Instructions.{answered}
use Rattle.au_cells.specs.declared.cells.Cell.{Cell}
use Rattle.au_cells.specs.declared.cells.Cell as cell
use Rattle.au_cells.proofs.CellLemmas.{unit_is}
use Rattle.au_stores.specs.declared.worlds.World.{World}
use Rattle.au_stores.specs.Stores.{world_of, top_frame, reached_by}
use Rattle.au_stores.proofs.CallLemmas.{use_is}
use Rattle.au_machine.specs.declared.states.Back.{Back}
use Rattle.au_machine.specs.declared.states.State.{State}
use Rattle.au_machine.specs.States.{machine_with, machine_of}
use Rattle.au_machine.proofs.StateLemmas.{world_changed, pushed_on, gone_on}

-- an answer has its own world, whatever the machine's is
from_other_world : (one : Answer ℕ ℕ) (w : LowWorld) (m : Machine)
    → answered one (in_world w m) ≡ answered one m
from_other_world (gives value world) w m = refl
from_other_world (writes bytes world) w m = refl
from_other_world waits w m = refl
from_other_world (aborts fault world) w m = refl
from_other_world none w m = refl

module _ (function place : ℕ) (operands : List Cell × List (List Cell)) (borrows : List ℕ × List (List ℕ))
    (backs : List Back) where
  abbrev In : World → Machine
  In w = machine_with function place operands borrows backs (top_frame w) (world_of w)

  pub answered_in : (w new : World) (one other : Answer ℕ ℕ) → one ≡ other → top_frame new ≡ top_frame w
      → answered one (In new) ≡ answered other (In w)
  answered_in w new one other is frame =
      ap (λ (a : Answer ℕ ℕ). answered a (In new)) is
      ∙ ap (answered other) (world_changed function place operands borrows backs w new _ refl frame)
      ∙ from_other_world other (world_of new) (In w)

  -- a machine is in its own world
  pub own_world : (w : World) → In w ≡ in_world (world_of w) (In w)
  own_world w = world_changed function place operands borrows backs w w _ refl refl

  -- bytes are written in another world
  pub written_in : (w new : World) (bytes : List ℕ) (world : LowWorld) → world_of new ≡ world
      → top_frame new ≡ top_frame w
      → machine.writes bytes (onward (pushed unit (In new))) ≡ answered (writes bytes world) (In w)
  written_in w new bytes world told frame =
      ap (λ (m : Machine). machine.writes bytes (onward (pushed unit m)))
      (world_changed function place operands borrows backs w new world told frame)

-- what a call comes to by something that is found, or isn't there
pub from_found : {A : Type 0} (found : Option A) (one : A) (go : A → Answer ℕ ℕ) (m : Machine)
    → Some one ≡ found
    → answered (go one) m ≡ answered (given found go) m
from_found found one go m is = ap (λ (it : Option _). answered (given it go) m) is

pub from_none : {A : Type 0} (found : Option A) (go : A → Answer ℕ ℕ) (m : Machine) → None ≡ found
    → machine.stuck ≡ answered (given found go) m
from_none found go m is = ap (λ (it : Option _). answered (given it go) m) is

-- what a call comes to by a reference that reaches a value of a form, or doesn't
module _ {A : Type 0} (form : Low → Option A) (w : LowWorld) (go : ℕ → A → Answer ℕ ℕ)
    (value : Low) (m : Machine) where
  pub use_found : (borrow : ℕ) (one : A) → Some (borrow, one) ≡ reached_by form value w
      → answered (go borrow one) m ≡ answered (use_of value w (λ b place held_value. given (form held_value) (go b))) m
  use_found borrow one is =
      ap (λ (it : Option (ℕ × A)). answered (given it (λ pair. go pair.0 pair.1)) m) is
      ∙ ap (λ (a : Answer ℕ ℕ). answered a m) (use_is form w go value)

  pub use_none : None ≡ reached_by form value w
      → machine.stuck ≡ answered (use_of value w (λ b place held_value. given (form held_value) (go b))) m
  use_none is =
      ap (λ (it : Option (ℕ × A)). answered (given it (λ pair. go pair.0 pair.1)) m) is
      ∙ ap (λ (a : Answer ℕ ℕ). answered a m) (use_is form w go value)

-- bytes are written, with Unit pushed
pub writes_on : (s : State) (bytes all : List ℕ) (operands : List Cell × List (List Cell)) → bytes ≡ all
    → operands ≡ (s.operands.0 ++ cell.Unit ∷ [], s.operands.1)
    → machine.writes bytes (machine_with s.function (s.place + 1) operands s.borrows
    (reverse s.backs.items) (top_frame s.world) (world_of s.world))
    ≡ machine.writes all (onward (pushed unit (machine_of s)))
writes_on s bytes all operands same is =
    let back = reverse s.backs.items in
    let w = world_of s.world in
    ap (λ (b : List ℕ). machine.writes b (machine_with s.function (s.place + 1) operands s.borrows back
    (top_frame s.world) w)) same
    ∙ ap (machine.writes all) (gone_on s.function s.place operands s.borrows back (top_frame s.world) w
    ∙ ap onward (pushed_on s.function s.place s.borrows back
    (top_frame s.world) w s.operands operands cell.Unit
    (ap (λ (p : List Cell × List (List Cell)). p.0) is) (ap (λ (p : List Cell × List (List Cell)). p.1) is)
    ∙ ap (λ value. pushed value (machine_of s)) unit_is))
