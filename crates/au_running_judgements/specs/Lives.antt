-- What is still to come of the names of a running frame: that each gets through the statements that lie
-- ahead, from how it stands now. By recursion on the tree, and no path stands in it.
use Rattle.std.specs.Prelude.{◌≡◌, ◌⊎◌, ℕ, zero, suc, ◌+◌, ◌<◌, ◌≤◌, ◌==◌, Bool, true, false, if◌then◌else◌}
use Rattle.std.specs.Prelude.{List, [], ◌∷◌, length, Option, Some, None}
use Rattle.au_ahead.specs.Ready.{Ready, Stand, away}
use Rattle.au_ahead.specs.Ready as stands
use Rattle.au_lending.specs.Ending.{freed}
use Rattle.au_lending.specs.Laws.{also_watched}
use Rattle.au_lives.specs.Mentions.{Counts, borrowed_by, one_look, one_write_borrow}
use Rattle.au_memory.specs.Forests.{Hold, empty, ready, shut, watched}
use Rattle.au_meaning.specs.Expressions.{note_of}
use Rattle.au_meaning.specs.Names.{Scope, Variable, mode_of, names_in, names_in_block, names_in_tests}
use Rattle.au_meaning.specs.Names.{variable_of}
use Rattle.au_meaning.specs.Names.{with_bound, with_reference}
use Rattle.au_meaning.specs.Statements.{after, fields_told, with_counter}
use Rattle.au_meaning.specs.Views.{View}
use Rattle.au_syntax.specs.declared.expressions.BorrowMode.{BorrowMode}
use Rattle.au_syntax.specs.declared.expressions.BorrowMode.TheVariants as mode
use Rattle.au_syntax.specs.Expressions.{Expression}
use Rattle.au_syntax.specs.Plain.{Bytes}
use Rattle.au_syntax.specs.Statements.{Statement, Statements, Branches, Arms, skip, declare, destructure}
use Rattle.au_syntax.specs.Statements.{assign, assign_through, conditional, conditional_else, case_of}
use Rattle.au_syntax.specs.Statements.{while_loop, for_loop, borrow_in, borrow_typed, discard, return_of}
use Rattle.au_syntax.specs.Statements.{no_statements, statements, no_branches, branches, no_arms, arms}
use Rattle.au_running_judgements.specs.Uses.{IsKept, uses, where_of}

-- how the names of a frame stand, by number
abbrev pub Standing : Type 0
Standing = ℕ → Hold

-- how a name stands, but for the tokens
abbrev pub stand : Hold → Stand
stand empty = stands.away
stand ready = stands.ready
stand (shut z) = stands.shut
stand (watched tokens) = stands.watched

-- one name stands so
abbrev pub put : {A : Type 0} → ℕ → A → (ℕ → A) → ℕ → A
put n a all k = if n == k then a else all k

-- so many names from one on stand so
abbrev pub put_each : {A : Type 0} → ℕ → ℕ → A → (ℕ → A) → ℕ → A
put_each n zero a all = all
put_each n (suc count) a all = put_each (suc n) count a (put n a all)

-- a name that is consumed so often in a step
abbrev pub spent : ℕ → Hold → Hold
spent zero h = h
spent (suc n) h = empty

-- how a name stands when tokens have ended, the newest first
abbrev pub freed_each : List ℕ → Hold → Hold
freed_each [] h = h
freed_each (z ∷ zs) h = freed_each zs (freed z h)

-- a name is over: it is empty, or it holds what may be dropped
abbrev pub IsOver : Bool → Hold → Type 0
IsOver true h = (h ≡ empty) ⊎ (h ≡ ready)
IsOver false h = h ≡ empty

-- no name waits for a token
abbrev pub IsNew : ℕ → Standing → Type 0
IsNew z h = (k : ℕ) → freed z (h k) ≡ h k

-- a variable is lent for a token
abbrev pub lent_for : BorrowMode → ℕ → Hold → Hold
lent_for mode.Read z h = also_watched z h
lent_for mode.Write z h = shut z
lent_for mode.Reborrow z h = shut z

abbrev pub lending : BorrowMode → ℕ → Option Variable → Standing → Standing
lending m z None h = h
lending m z (Some x) h = put x.number (lent_for m z (h x.number)) h

-- what is still to come of each name is good for how it stands
abbrev pub AreReady : Standing → (ℕ → Counts) → Type 0
AreReady h counts = (k : ℕ) → Ready (stand (h k)) (counts k)

-- what is seen of the notes of a tree, and which names hold what may be dropped
module _ {I T C : Type 0} (see : View I T C) (loose : ℕ → Bool) where
  -- how names stand after a whole expression
  abbrev pub after_whole : Scope → Expression Bytes T C → Standing → Standing
  after_whole scope e h k = spent (uses see k scope e).consumed (h k)

  -- a whole expression may be evaluated, and then this holds
  abbrev pub Steps : Scope → Expression Bytes T C → Standing → (Standing → Type 0) → Type 0
  Steps scope e h Q = AreReady h (λ k. uses see k scope e) × Q (after_whole scope e h)

  -- so many names from one on are over at the end of their block, and emptied
  abbrev pub Over : ℕ → ℕ → (Standing → Type 0) → Standing → Type 0
  Over number count Q h =
      ((k : ℕ) → number ≤ k → k < number + count → IsOver (loose k) (h k))
      × Q (put_each number count empty h)

  -- a borrow statement, for whatever new token: its block goes on with this
  abbrev pub Opens : BorrowMode → Option Variable → ℕ → Standing → (ℕ → Standing → Type 0) → Type 0
  Opens m x number h Q =
      AreReady h (λ k. where_of k x (borrowed_by m))
      × ((z : ℕ) → IsNew z h → Q z (put number ready (lending m z x h)))

  -- Each name of the frame gets through, where the names from this one on are empty, and these are the
  -- tokens of the borrow statements that are open in the frame, the newest first.
  abbrev mutual
    -- through a statement; where it falls through, Q holds of how the names stand then
    pub Ahead : ℕ → Scope → List ℕ → Statement Bytes T C → (Standing → Type 0) → Standing → Type 0
    Ahead number scope zs (skip at) Q h = Q h
    Ahead number scope zs (declare at binding x t e) Q h = Steps scope e h (λ g. Q (put number ready g))
    Ahead number scope zs (destructure at binds e) Q h =
        Steps scope e h (λ g. Q (put_each number (length binds) ready g))
    Ahead number scope zs (assign at x fields e) Q h =
        Steps scope e h (λ g. AreReady g (λ k. where_of k (variable_of scope x.name) one_write_borrow) × Q g)
    Ahead number scope zs (assign_through at r fields e) Q h =
        Steps scope e h (λ g. AreReady g (λ k. where_of k (variable_of scope r.name) one_look) × Q g)
    Ahead number scope zs (conditional at tests) Q h = AheadTests number scope zs tests Q Q h
    Ahead number scope zs (conditional_else at tests block) Q h =
        AheadTests number scope zs tests
        (λ g. AheadAll (number + names_in_tests tests) scope zs block
        (Over (number + names_in_tests tests) (names_in_block block) Q) g) Q h
    Ahead number scope zs (case_of at e all) Q h =
        Steps scope e h (λ g. AheadArms number scope zs (note_of e) all Q g)
    Ahead number scope zs (while_loop at e block) Q h =
        Steps scope e h (λ g. ((k : ℕ) → IsKept see k scope e)
        × AheadAll number scope zs block (Over number (names_in_block block) (λ f. (k : ℕ) → f k ≡ h k)) h
        × Q h)
    Ahead number scope zs (for_loop at name first last block) Q h =
        Steps scope first h (λ g. Steps scope last g (λ f.
        AheadAll (number + 1) (with_counter see number name.name first scope) zs block
        (Over number (1 + names_in_block block) (λ d. (k : ℕ) → d k ≡ f k)) (put number ready f) × Q f))
    Ahead number scope zs (borrow_in at access x r region block stop) Q h =
        Opens (mode_of access) (variable_of scope x.name) number h (λ z g.
        AheadAll (number + 1)
        (with_reference (mode_of access) (variable_of scope x.name) number r.name scope) (z ∷ zs) block
        (Over number (1 + names_in_block block) (λ f. Q (λ k. freed z (f k)))) g)
    Ahead number scope zs (borrow_typed at r t m x block stop) Q h =
        Opens m (variable_of scope x.name) number h (λ z g.
        AheadAll (number + 1) (with_reference m (variable_of scope x.name) number r.name scope) (z ∷ zs) block
        (Over number (1 + names_in_block block) (λ f. Q (λ k. freed z (f k)))) g)
    Ahead number scope zs (discard at e) Q h = Steps scope e h Q
    Ahead number scope zs (return_of at e) Q h =
        Steps scope e h (λ g. (k : ℕ) → IsOver (loose k) (freed_each zs (g k)))

    -- through statements one after another
    pub AheadAll : ℕ → Scope → List ℕ → Statements Bytes T C → (Standing → Type 0) → Standing → Type 0
    AheadAll number scope zs no_statements Q h = Q h
    AheadAll number scope zs (statements s rest) Q h =
        Ahead number scope zs s
        (λ g. AheadAll (number + names_in s) (after see number s scope) zs rest Q g) h

    -- through the branches of a conditional, where `other` holds if no test is true
    pub AheadTests : ℕ → Scope → List ℕ → Branches Bytes T C → (Standing → Type 0) → (Standing → Type 0)
        → Standing
        → Type 0
    AheadTests number scope zs no_branches other Q h = other h
    AheadTests number scope zs (branches e block rest) other Q h =
        Steps scope e h (λ g. AheadAll number scope zs block (Over number (names_in_block block) Q) g
        × AheadTests (number + names_in_block block) scope zs rest other Q g)

    -- through each arm of a case, whichever case of the type its name means
    pub AheadArms : ℕ → Scope → List ℕ → T → Arms Bytes T C → (Standing → Type 0) → Standing → Type 0
    AheadArms number scope zs note no_arms Q h = Unit {0}
    AheadArms number scope zs note (arms at name binds block rest) Q h =
        ((tag : ℕ)
        → AheadAll (number + length binds) (with_bound (fields_told see note tag) number binds scope) zs block
        (Over number (length binds + names_in_block block) Q) (put_each number (length binds) ready h))
        × AheadArms (number + (length binds + names_in_block block)) scope zs note rest Q h
