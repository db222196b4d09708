-- Slots that are in use stay so.
use Rattle.std.proofs.Common.{ℕ, ◌+◌, ◌≤◌, arith}
use Rattle.std.proofs.Math.Nat.{le_refl}
use Rattle.au_lowered.specs.Slots.{room, room_of_block, room_of_tests, room_of_arms}
use Rattle.au_meaning.specs.Expressions.{note_of}
use Rattle.au_meaning.specs.Views.{View}
use Rattle.au_syntax.specs.Statements.{Statement, Statements, Branches, Arms, skip, declare, destructure}
use Rattle.au_syntax.specs.Statements.{assign, assign_through, conditional, conditional_else, case_of}
use Rattle.au_syntax.specs.Statements.{while_loop, for_loop, borrow_in, borrow_typed, discard, return_of}
use Rattle.au_syntax.specs.Statements.{no_statements, statements, no_branches, branches, no_arms, arms}
use Rattle.au_syntax.specs.Plain.{Bytes}

module _ {I T C : Type 0} (see : View I T C) where
  mutual
    pub room_least : (s : Statement Bytes T C) (slot : ℕ) → slot ≤ room see slot s
    room_least (skip at) slot = le_refl slot
    room_least (declare at binding name t e) slot = omega arith
    room_least (destructure at binds e) slot = omega arith
    room_least (assign at x path e) slot = le_refl slot
    room_least (assign_through at r path e) slot = le_refl slot
    room_least (conditional at tests) slot = tests_least tests slot
    room_least (conditional_else at tests block) slot = let a = block_least block slot in omega (arith, a)
    room_least (case_of at e all) slot = arms_least all slot (note_of e)
    room_least (while_loop at e block) slot = block_least block slot
    room_least (for_loop at name first last block) slot = let a = block_least block (slot + 3) in omega
        (arith, a)
    room_least (borrow_in at access x r region block stop) slot = let a = block_least block (slot + 1) in
        omega (arith, a)
    room_least (borrow_typed at r t mode x block stop) slot = let a = block_least block (slot + 1) in omega
        (arith, a)
    room_least (discard at e) slot = le_refl slot
    room_least (return_of at e) slot = le_refl slot

    pub block_least : (b : Statements Bytes T C) (slot : ℕ) → slot ≤ room_of_block see slot b
    block_least no_statements slot = le_refl slot
    block_least (statements s rest) slot = let a = room_least s slot in omega (arith, a)

    tests_least : (tests : Branches Bytes T C) (slot : ℕ) → slot ≤ room_of_tests see slot tests
    tests_least no_branches slot = le_refl slot
    tests_least (branches e block rest) slot = let a = block_least block slot in omega (arith, a)

    arms_least : (all : Arms Bytes T C) (slot : ℕ) (note : T) → slot ≤ room_of_arms see slot note all
    arms_least no_arms slot note = le_refl slot
    arms_least (arms at name binds block rest) slot note = let a = arms_least rest slot note in omega
        (arith, a)
