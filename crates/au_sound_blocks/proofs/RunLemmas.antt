-- Each statement is safe, by the recursion of its meaning.
use Rattle.std.proofs.Common.{◌≡◌, ℕ, suc, ◌+◌, ◌<◌, ◌≤◌, Bool, true, false, List, ◌∷◌, ◌++◌, length}
use Rattle.std.proofs.Common.{map, Option, Some, refl, arith, ℤ}
use Rattle.au_base.specs.declared.kinds.IntKind.{IntKind}
use Rattle.au_effects.specs.Values as values
use Rattle.au_type_texts.specs.Types.{ClosedType}
use Rattle.au_types.specs.Types.{Meaning, integer}
use Rattle.au_syntax.specs.declared.expressions.BorrowMode.{BorrowMode}
use Rattle.au_syntax.specs.Plain.{Bytes}
use Rattle.au_syntax.specs.Statements.{Statement, Statements, Branches, Arms, skip, declare, destructure}
use Rattle.au_syntax.specs.Statements.{assign, assign_through, conditional, conditional_else, case_of}
use Rattle.au_syntax.specs.Statements.{while_loop, for_loop, borrow_in, borrow_typed, discard, return_of}
use Rattle.au_syntax.specs.Statements.{no_statements, statements, no_branches, branches, no_arms, arms}
use Rattle.au_memory.specs.Forests as forest
use Rattle.au_memory.specs.Forests.{Made}
use Rattle.au_memory.specs.Loans.{Types}
use Rattle.au_memory.specs.Shown.{IsPlain}
use Rattle.au_lending.specs.Ending.{freed}
use Rattle.au_lending.specs.Records.{onto, types_made}
use Rattle.au_sound_expressions.specs.Orders.{Act, Lying, is_active}
use Rattle.au_sound_expressions.specs.Frames.{Frame}
use Rattle.au_meaning.specs.Acts.{holds, with_value}
use Rattle.au_meaning.specs.Expressions.{names_of, note_of}
use Rattle.au_meaning.specs.Names.{Scope, Variable, mode_of, names_in, names_in_arms, names_in_block, names_in_tests}
use Rattle.au_meaning.specs.Names.{variable_of, with_bound, with_reference}
use Rattle.au_meaning.specs.Statements.{Flow, after, binds_borrow, either, emptying, falls, fields_told, means_case}
use Rattle.au_meaning.specs.Statements.{run}
use Rattle.au_meaning.specs.Statements.{run_all, run_arms, run_tests, with_counter, within}
use Rattle.au_meaning.specs.Statements as statement
use Rattle.au_meaning.specs.Ticks.{Action, pure, ◌>>◌}
use Rattle.au_meaning.specs.Views.{View}
use Rattle.au_meaning.specs.Worlds.{Value, World}
use Rattle.au_sound_expressions.specs.Good.{GoodBy, IsRunning}
use Rattle.au_sound_expressions.specs.Making.{values_of}
use Rattle.au_sound_expressions.proofs.GoodLemmas.{good_so}
use Rattle.au_sound_expressions.specs.Blocks.{Either, IsFine, Lends, Names, Runs, RunsAll, RunsArms, RunsTests, through}
use Rattle.au_sound_expressions.specs.Blocks.{with_types}
use Rattle.au_sound_expressions.specs.Known.{Callables}
use Rattle.au_sound_expressions.specs.Lives.{Ahead, AheadAll, AheadArms, AheadTests, Opens, Over, Standing}
use Rattle.au_sound_expressions.specs.Lives.{after_whole, lending, put, put_each}
use Rattle.au_sound_expressions.specs.Safe.{AllWait, CallsSafe, frame}
use Rattle.au_sound_blocks.specs.Flows.{tokens}
use Rattle.au_sound_blocks.specs.Steps.{StepsAreSafe}
use Rattle.au_sound_blocks.proofs.AssignLemmas.{assign_safe, destructure_safe, through_safe}
use Rattle.au_sound_blocks.proofs.CaseLemmas.{arm_safe, case_safe}
use Rattle.au_sound_blocks.proofs.FormLemmas.{declare_safe, held_on}
use Rattle.au_sound_blocks.proofs.FrameLemmas.{put_other}
use Rattle.au_sound_blocks.proofs.LeaveLemmas.{discard_safe, return_safe}
use Rattle.au_sound_blocks.proofs.LendLemmas.{borrow_in_safe}
use Rattle.au_sound_blocks.proofs.LoopLemmas.{ends_based, for_safe, good_does, test_safe, while_safe}
use Rattle.au_sound_blocks.proofs.StateLemmas.{Ends, Goes, ends_then, falls_on, goes_later, goes_with, within_safe}
use Rattle.au_sound_expressions.specs.Held.{GoodHeld, Permits}

-- one flow or another, by a fact of which each side is known
either_safe : (owner : ClosedType → Option (List ℕ)) (cuts : World → Type 0) (q : Flow → World → Type 0) (b : Bool)
    (X Y : Type 0)
    (one two : Action Flow) (w : World) (ticks : ℕ) → Either b X Y → (X → GoodBy owner cuts q (one w ticks))
    → (Y → GoodBy owner cuts q (two w ticks)) → GoodBy owner cuts q (either b one two w ticks)
either_safe owner cuts q true X Y one two w ticks fits goes_one goes_two = goes_one fits
either_safe owner cuts q false X Y one two w ticks fits goes_one goes_two = goes_two fits

module _ (types : Types) (owner : ClosedType → Option (List ℕ)) {V W : Type 0} (permits : Permits V W)
    (ways : List V) (laws : StepsAreSafe types owner) (key : V) (loose : ℕ → Bool)
    (result : Meaning) (below : List Act) (base : Lying) (fs : List Frame) (sizes : List ℕ) (size : ℕ)
    (running : IsRunning sizes fs size) {I T C K : Type 0} (see : View I T C) (known : Callables I K)
    (invoke : I → List Value → Action Value) (calls_safe : CallsSafe types owner permits (key ∷ ways) known invoke)
    (waiting : AllWait permits ways (is_active below) fs) (depth : ℕ) where
  abbrev Gos : List Act → ℕ → Standing → Names → Made → World → Type 0
  Gos own number h names under w = Goes types owner permits ways laws key loose result below base fs sizes size
      running own
      number h names under w

  abbrev Ending : List Act → (kept next : ℕ) → Names → (Standing → Type 0) → (Names → Type 0) → Made → Flow → World
      → Type 0
  Ending own kept next before A R under flow w =
      Ends types owner permits ways laws key loose result below base fs sizes size running own kept next before A R
      under
      flow w

  -- a statement that ends so ends where more names are empty, and fewer kept
  weaker : (own : List Act) (kept less next later : ℕ) (names : Names) (A : Standing → Type 0) (R : Names → Type 0)
      (under : Made) (m : Action Flow) (w : World) (ticks : ℕ) → less ≤ kept → next ≤ later
      → GoodHeld types owner permits (key ∷ ways) (Ending own kept next names A R under) (m w ticks)
      → GoodHeld types owner permits (key ∷ ways) (Ending own less later names A R under) (m w ticks)
  weaker own kept less next later names A R under m w ticks fewer more good =
      good_so owner _ (Ending own kept next names A R under) (Ending own less later names A R under) (m w ticks)
      (λ flow n ended. ends_based types owner permits ways laws key loose result below base fs sizes size running see
      known
      invoke calls_safe waiting own kept less next later names names A R R under flow n fewer more (λ k below_it. refl)
      (λ ns says. says) ended) good

  -- the same over types of names that are the same where it counts
  rebased : (own : List Act) (kept less next later : ℕ) (before others : Names) (A : Standing → Type 0) (under : Made)
      (m : Action Flow) (w : World) (ticks : ℕ) → less ≤ kept → next ≤ later
      → ((k : ℕ) → k < less → before k ≡ others k)
      → GoodHeld types owner permits (key ∷ ways) (Ending own kept next before A (λ ns. Unit {0}) under) (m w ticks)
      → GoodHeld types owner permits (key ∷ ways) (Ending own less later others A (λ ns. Unit {0}) under) (m w ticks)
  rebased own kept less next later before others A under m w ticks fewer more same good =
      good_so owner _ (Ending own kept next before A (λ ns. Unit {0}) under)
      (Ending own less later others A (λ ns. Unit {0}) under) (m w ticks)
      (λ flow n ended. ends_based types owner permits ways laws key loose result below base fs sizes size running see
      known
      invoke calls_safe waiting own kept less next later before others A (λ ns. Unit {0}) (λ ns. Unit {0}) under flow n
      fewer more same (λ ns u. tt) ended) good

  -- Statements one after another are safe.
  abbrev AllSafe : Statements Bytes T C → Type 1
  AllSafe block =
      (number : ℕ) (scope : Scope) (own : List Act) (A : Standing → Type 0) (h : Standing) (names : Names)
      (under : Made)
      (w : World) (ticks : ℕ) → AheadAll see loose number scope (tokens own) block A h
      → RunsAll types owner see known result loose permits key (is_active (own ++ below)) number scope block names
      → number + names_in_block block ≤ size → Gos own number h names under w
      → GoodHeld types owner permits (key ∷ ways) (Ending own number (number + names_in_block block) names A
      (λ ns. Unit {0}) under)
      (run_all see invoke depth number scope block w ticks)

  -- So is a block of them, whose names are emptied.
  block_safe : (block : Statements Bytes T C) → AllSafe block → (number : ℕ) (scope : Scope) (own : List Act)
      (A : Standing → Type 0) (S : Names → Type 0) (h : Standing) (names : Names) (under : Made) (w : World) (ticks : ℕ)
      → AheadAll see loose number scope (tokens own) block (Over see loose number (names_in_block block) A) h
      → RunsAll types owner see known result loose permits key (is_active (own ++ below)) number scope block names
      → number + names_in_block block ≤ size → S names → Gos own number h names under w
      → GoodHeld types owner permits (key ∷ ways) (Ending own number number names A S under)
      (emptying see number block (run_all see invoke depth number scope block) w ticks)
  block_safe block safe number scope own A S h names under w ticks ahead runs room says going =
      within_safe types owner permits ways laws key loose result below base fs sizes size running own number
      (names_in_block block) names A (λ ns. Unit {0}) S under (run_all see invoke depth number scope block) w ticks room
      says (safe number scope own (Over see loose number (names_in_block block) A) h names under w ticks ahead runs room
      going)

  -- So is a block with a name before it, which is held already.
  behind_safe : (block : Statements Bytes T C) → AllSafe block → (number : ℕ) (scope : Scope) (own : List Act)
      (A : Standing → Type 0) (S : Names → Type 0) (h : Standing) (names : Names) (t : Meaning) (under : Made)
      (w : World)
      (ticks : ℕ)
      → AheadAll see loose (number + 1) scope (tokens own) block (Over see loose number (1 + names_in_block block) A) h
      → RunsAll types owner see known result loose permits key (is_active (own ++ below)) (number + 1) scope block
      (put number t names)
      → number + (1 + names_in_block block) ≤ size → S names → Gos own (number + 1) h (put number t names) under w
      → GoodHeld types owner permits (key ∷ ways)
      (Ending own number (number + (1 + names_in_block block)) names
      (Over see loose number (1 + names_in_block block) A) (λ ns. Unit {0}) under)
      (run_all see invoke depth (number + 1) scope block w ticks)
  behind_safe block safe number scope own A S h names t under w ticks ahead runs room says going =
      rebased own (number + 1) number ((number + 1) + names_in_block block) (number + (1 + names_in_block block))
      (put number t names) names (Over see loose number (1 + names_in_block block) A) under
      (run_all see invoke depth (number + 1) scope block) w ticks (omega arith) (omega arith)
      (λ k less. put_other number k t names (λ same. omega arith))
      (safe (number + 1) scope own (Over see loose number (1 + names_in_block block) A) h (put number t names) under w
      ticks ahead runs (omega arith) going)

  -- A borrow statement is safe.
  lent_safe : (block : Statements Bytes T C) → AllSafe block → (m : BorrowMode) (o : Option Variable) (number : ℕ)
      (scope : Scope) (own : List Act) (A : Standing → Type 0) (S : Names → Type 0) (h : Standing) (names : Names)
      (under : Made) (w : World) (ticks : ℕ)
      → Opens see loose m o number h (λ z g. AheadAll see loose (number + 1) scope (z ∷ tokens own) block
      (Over see loose number (1 + names_in_block block) (λ f. A (λ k. freed z (f k)))) g)
      → Lends types owner see known result loose permits key (is_active (own ++ below)) number m o names
      (λ more ns. RunsAll types owner see known result loose permits key more (number + 1) scope block ns)
      → number + (1 + names_in_block block) ≤ size → S names → Gos own number h names under w
      → GoodHeld types owner permits (key ∷ ways) (Ending own number number names A S under)
      (statement.lending (binds_borrow number m o)
      (within number (1 + names_in_block block) (run_all see invoke depth (number + 1) scope block)) w ticks)
  lent_safe block safe m o number scope own A S h names under w ticks ahead runs room says going =
      borrow_in_safe types owner permits ways laws key loose result below base fs sizes size running see known invoke
      calls_safe waiting m o number own A S h names under w ticks
      (within number (1 + names_in_block block) (run_all see invoke depth (number + 1) scope block)) ahead.0 says
      (omega arith)
      (λ a off.
      let fit = runs a.token off in (
        fit.0,
        fit.1,
        fit.2,
        λ n left new on.
            within_safe types owner permits ways laws key loose result below base fs sizes size running (a ∷ own) number
            (1 + names_in_block block) names (λ f. A (λ k. freed a.token (f k))) (λ ns. Unit {0}) (λ ns. ns ≡ names)
            under (run_all see invoke depth (number + 1) scope block) n left room refl
            (behind_safe block safe number scope (a ∷ own) (λ f. A (λ k. freed a.token (f k))) (λ ns. ns ≡ names)
            (put number forest.ready (lending m a.token o h)) names fit.0 under n left (ahead.1 a.token new) fit.3 room
            refl on),
      ))
      going

  -- The turn of a `for` loop is safe.
  turn_safe : (block : Statements Bytes T C) → AllSafe block → (number : ℕ) (scope : Scope) (kind : IntKind)
      (own : List Act) (h : Standing) (names : Names) (under : Made) (z : ℤ) (w : World) (ticks : ℕ)
      → AheadAll see loose (number + 1) scope (tokens own) block
      (Over see loose number (1 + names_in_block block) (λ d. (k : ℕ) → d k ≡ h k)) (put number forest.ready h)
      → RunsAll types owner see known result loose permits key (is_active (own ++ below)) (number + 1) scope block
      (put number (integer kind) names)
      → IsFine types loose permits key number (integer kind) → number + (1 + names_in_block block) ≤ size
      → IsPlain (values.number kind z) (integer kind) → Gos own number h names under w
      → GoodHeld types owner permits (key ∷ ways) (Ending own number number names (λ d. (k : ℕ) → d k ≡ h k)
      (λ ns. ns ≡ names) under)
      (within number (1 + names_in_block block)
      (holds number (values.number kind z) >> run_all see invoke depth (number + 1) scope block) w ticks)
  turn_safe block safe number scope kind own h names under z w ticks ahead runs fine room plain going =
      let counted = goes_with types owner permits ways laws key loose result below base fs sizes size running own
      number h
      names under ((values.number kind z, integer kind) ∷ under) w w refl
      (laws.actions.plain (own ++ below) (frame h names ∷ fs) sizes under w (values.number kind z) (integer kind) plain
      going.state) going in
      within_safe types owner permits ways laws key loose result below base fs sizes size running own number
      (1 + names_in_block block) names (λ d. (k : ℕ) → d k ≡ h k) (λ ns. Unit {0}) (λ ns. ns ≡ names) under
      (holds number (values.number kind z) >> run_all see invoke depth (number + 1) scope block) w ticks room refl
      (good_does owner _
      (Ending own number (number + (1 + names_in_block block)) names
      (Over see loose number (1 + names_in_block block) (λ d. (k : ℕ) → d k ≡ h k)) (λ ns. Unit {0}) under)
      (with_value number (Some (values.number kind z))) (run_all see invoke depth (number + 1) scope block) w ticks
      (behind_safe block safe number scope own (λ d. (k : ℕ) → d k ≡ h k) (λ ns. ns ≡ names) (put number forest.ready h)
      names (integer kind) under (with_value number (Some (values.number kind z)) w) ticks ahead runs room refl
      (held_on types owner permits ways laws key loose result below base fs sizes size running see known invoke
      calls_safe
      waiting own number (integer kind) h names under (values.number kind z) w (omega arith) fine counted)))

  mutual
    pub run_safe : (s : Statement Bytes T C) (number : ℕ) (scope : Scope) (own : List Act) (A : Standing → Type 0)
        (R : Names → Type 0) (h : Standing) (names : Names) (under : Made) (w : World) (ticks : ℕ)
        → Ahead see loose number scope (tokens own) s A h
        → Runs types owner see known result loose permits key (is_active (own ++ below)) number scope s R names
        → number + names_in s ≤ size → Gos own number h names under w
        → GoodHeld types owner permits (key ∷ ways) (Ending own number (number + names_in s) names A R under)
        (run see invoke depth number scope s w ticks)
    run_safe (skip at) number scope own A R h names under w ticks ahead runs room going =
        falls_on types owner permits ways laws key loose result below base fs sizes size running own number
        (number + 0) h
        names A R under w ahead runs
        (goes_later types owner permits ways laws key loose result below base fs sizes size running own number
        (number + 0) h
        names under w (omega arith) going)
    run_safe (declare at binding x t e) number scope own A R h names under w ticks ahead runs room going =
        declare_safe types owner permits ways laws key loose result below base fs sizes size running see known invoke
        calls_safe waiting number scope e runs.0 own A R h names under w ticks runs.1 runs.2 runs.3 ahead room going
    run_safe (destructure at binds e) number scope own A R h names under w ticks ahead runs room going =
        destructure_safe types owner permits ways laws key loose result below base fs sizes size running see known
        invoke
        calls_safe waiting number scope e binds own A R h names under w ticks runs.0 runs.1 runs.3 runs.2 runs.4.0
        runs.4.1 ahead room going
    run_safe (assign at x fields e) number scope own A R h names under w ticks ahead runs room going =
        weaker own number number number (number + 0) names A R under
        (run see invoke depth number scope (assign at x fields e)) w ticks (omega arith) (omega arith)
        (assign_safe types owner permits ways laws key loose result below base fs sizes size running see known invoke
        calls_safe waiting number scope e (variable_of scope x.name) (names_of fields) own A R h names under w ticks
        runs.0 runs.1 runs.2 runs.3 ahead going)
    run_safe (assign_through at r fields e) number scope own A R h names under w ticks ahead runs room going =
        weaker own number number number (number + 0) names A R under
        (run see invoke depth number scope (assign_through at r fields e)) w ticks (omega arith) (omega arith)
        (through_safe types owner permits ways laws key loose result below base fs sizes size running see known invoke
        calls_safe waiting number scope e (variable_of scope r.name) (names_of fields) own A R h names under w ticks
        runs.0 runs.1 runs.2 runs.3 runs.4 runs.5 ahead going)
    run_safe (conditional at tests) number scope own A R h names under w ticks ahead runs room going =
        tests_safe tests number scope own A A R h names under w ticks (pure falls) number (number + names_in_tests
        tests) (omega arith) room (omega arith) runs.1
        (λ g n left other on.
        falls_on types owner permits ways laws key loose result below base fs sizes size running own number
        (number + names_in_tests tests) g names A R under n other runs.1 on)
        ahead runs.0 going
    run_safe (conditional_else at tests block) number scope own A R h names under w ticks ahead runs room going =
        tests_safe tests number scope own
        (λ g. AheadAll see loose (number + names_in_tests tests) scope (tokens own) block
        (Over see loose (number + names_in_tests tests) (names_in_block block) A) g) A R h names under w ticks
        (emptying see (number + names_in_tests tests) block
        (run_all see invoke depth (number + names_in_tests tests) scope block)) number
        (number + (names_in_tests tests + names_in_block block)) (omega arith) (omega arith) (omega arith) runs.2
        (λ g n left other on.
        weaker own (number + names_in_tests tests) number (number + names_in_tests tests)
        (number + (names_in_tests tests + names_in_block block)) names A R under
        (emptying see (number + names_in_tests tests) block
        (run_all see invoke depth (number + names_in_tests tests) scope block)) n left (omega arith) (omega arith)
        (block_safe block (all_safe block) (number + names_in_tests tests) scope own A R g names under n left other
        runs.1 (omega arith) runs.2 on))
        ahead runs.0 going
    run_safe (case_of at e all) number scope own A R h names under w ticks ahead runs room going =
        case_safe types owner permits ways laws key loose result below base fs sizes size running see known invoke
        calls_safe
        waiting number (number + names_in_arms all) scope e own A R h names under w ticks runs.0 runs.1 runs.2 runs.3
        (run_arms see invoke depth number scope (note_of e) all) runs.4 runs.5 runs.6 ahead.0
        (λ tag ts parts n left fields typed on.
        arms_safe all number scope (note_of e) own A R (after_whole see loose scope e h) names under parts tag
        (map (through runs.1) ts) n left number (number + names_in_arms all) (omega arith) (omega arith) room runs.8
        ahead.1 (runs.7 tag ts fields) typed on) going
    run_safe (while_loop at e block) number scope own A R h names under w ticks ahead runs room going =
        weaker own number number number (number + names_in_block block) names A R under
        (run see invoke depth number scope (while_loop at e block)) w ticks (omega arith) (omega arith)
        (while_safe types owner permits ways laws key loose result below base fs sizes size running see known invoke
        calls_safe waiting (suc depth) number scope e own A R h names under w ticks
        (emptying see number block (run_all see invoke depth number scope block)) runs.0 ahead.0 ahead.1.0 ahead.1.2
        runs.2 (λ n left on.
        block_safe block (all_safe block) number scope own (λ f. (k : ℕ) → f k ≡ h k) (λ ns. ns ≡ names) h names under n
        left ahead.1.1 runs.1 room refl on) going)
    run_safe (for_loop at name one two block) number scope own A R h names under w ticks ahead runs room going =
        weaker own number number number (number + (1 + names_in_block block)) names A R under
        (run see invoke depth number scope (for_loop at name one two block)) w ticks (omega arith) (omega arith)
        (for_safe types owner permits ways laws key loose result below base fs sizes size running see known invoke
        calls_safe
        waiting (suc depth) number scope one two runs.0 own A R h names under w ticks
        (λ kind z. within number (1 + names_in_block block)
        (holds number (values.number kind z)
        >> run_all see invoke depth (number + 1) (with_counter see number name.name one scope) block)) runs.1 runs.2
        ahead.0 ahead.1.0 ahead.1.1.1 runs.5
        (λ z n left plain on.
        turn_safe block (all_safe block) number (with_counter see number name.name one scope) runs.0 own
        (after_whole see loose scope two (after_whole see loose scope one h)) names under z n left ahead.1.1.0 runs.4
        runs.3 room plain on) going)
    run_safe (borrow_in at access x r region block stop) number scope own A R h names under w ticks ahead runs room
        going =
        weaker own number number number (number + (1 + names_in_block block)) names A R under
        (run see invoke depth number scope (borrow_in at access x r region block stop)) w ticks (omega arith)
        (omega arith) (lent_safe block (all_safe block) (mode_of access) (variable_of scope x.name) number
        (with_reference (mode_of access) (variable_of scope x.name) number r.name scope) own A R h names under w ticks
        ahead runs.0 room runs.1 going)
    run_safe (borrow_typed at r t m x block stop) number scope own A R h names under w ticks ahead runs room going =
        weaker own number number number (number + (1 + names_in_block block)) names A R under
        (run see invoke depth number scope (borrow_typed at r t m x block stop)) w ticks (omega arith) (omega arith)
        (lent_safe block (all_safe block) m (variable_of scope x.name) number
        (with_reference m (variable_of scope x.name) number r.name scope) own A R h names under w ticks ahead runs.0
        room runs.1 going)
    run_safe (discard at e) number scope own A R h names under w ticks ahead runs room going =
        weaker own number number number (number + 0) names A R under (run see invoke depth number scope (discard at e))
        w ticks (omega arith) (omega arith)
        (discard_safe types owner permits ways laws key loose result below base fs sizes size running see known invoke
        calls_safe waiting number scope e own A R h names under w ticks runs.0 runs.1 ahead going)
    run_safe (return_of at e) number scope own A R h names under w ticks ahead runs room going =
        weaker own number number number (number + 0) names A R under (run see invoke depth number scope
        (return_of at e)) w ticks (omega arith) (omega arith)
        (return_safe types owner permits ways laws key loose result below base fs sizes size running see known invoke
        calls_safe waiting number scope e own A R h names under w ticks runs ahead (omega arith) going)

    pub all_safe : (block : Statements Bytes T C) → AllSafe block
    all_safe no_statements number scope own A h names under w ticks ahead runs room going =
        falls_on types owner permits ways laws key loose result below base fs sizes size running own number
        (number + 0) h
        names A (λ ns. Unit {0}) under w ahead tt
        (goes_later types owner permits ways laws key loose result below base fs sizes size running own number
        (number + 0) h
        names under w (omega arith) going)
    all_safe (statements s rest) number scope own A h names under w ticks ahead runs room going =
        ends_then types owner permits ways laws key loose result below base fs sizes size running own own number
        (number + names_in s) number (number + (names_in s + names_in_block rest)) names names
        (λ g. AheadAll see loose (number + names_in s) (after see number s scope) (tokens own) rest A g) A
        (λ more. RunsAll types owner see known result loose permits key (is_active (own ++ below)) (number + names_in s)
        (after see number s scope) rest more) (λ ns. Unit {0}) under (run see invoke depth number scope s)
        (run_all see invoke depth (number + names_in s) (after see number s scope) rest) w ticks
        (run_safe s number scope own
        (λ g. AheadAll see loose (number + names_in s) (after see number s scope) (tokens own) rest A g)
        (λ more. RunsAll types owner see known result loose permits key (is_active (own ++ below)) (number + names_in s)
        (after see number s scope) rest more) h names under w ticks ahead runs (omega arith) going)
        (λ n left fell.
        rebased own (number + names_in s) number ((number + names_in s) + names_in_block rest)
        (number + (names_in s + names_in_block rest)) fell.names names A under
        (run_all see invoke depth (number + names_in s) (after see number s scope) rest) n left (omega arith)
        (omega arith) fell.same
        (all_safe rest (number + names_in s) (after see number s scope) own A fell.hold fell.names under n left
        fell.ahead fell.runs (omega arith) fell.going))

    pub tests_safe : (tests : Branches Bytes T C) (number : ℕ) (scope : Scope) (own : List Act)
        (other A : Standing → Type 0) (S : Names → Type 0) (h : Standing) (names : Names) (under : Made) (w : World)
        (ticks : ℕ) (last : Action Flow) (kept next : ℕ) → kept ≤ number → number + names_in_tests tests ≤ size
        → number + names_in_tests tests ≤ next → S names
        → ((g : Standing) (n : World) (left : ℕ) → other g → Gos own (number + names_in_tests tests) g names under n
        → GoodHeld types owner permits (key ∷ ways) (Ending own kept next names A S under) (last n left))
        → AheadTests see loose number scope (tokens own) tests other A h
        → RunsTests types owner see known result loose permits key (is_active (own ++ below)) number scope tests names
        → Gos own number h names under w
        → GoodHeld types owner permits (key ∷ ways) (Ending own kept next names A S under)
        (run_tests see invoke depth number scope tests last w ticks)
    tests_safe no_branches number scope own other A S h names under w ticks last kept next fewer room more says safe
        ahead runs going =
        safe h w ticks ahead
        (goes_later types owner permits ways laws key loose result below base fs sizes size running own number
        (number + 0) h
        names under w (omega arith) going)
    tests_safe (branches e block rest) number scope own other A S h names under w ticks last kept next fewer room more
        says safe ahead runs going =
        test_safe types owner permits ways laws key loose result below base fs sizes size running see known invoke
        calls_safe
        waiting number scope e own (Ending own kept next names A S under) h names under w ticks
        (emptying see number block (run_all see invoke depth number scope block))
        (run_tests see invoke depth (number + names_in_block block) scope rest last) runs.0 ahead.0 going
        (λ n left on.
        weaker own number kept number next names A S under
        (emptying see number block (run_all see invoke depth number scope block)) n left fewer (omega arith)
        (block_safe block (all_safe block) number scope own A S (after_whole see loose scope e h) names under n left
        ahead.1.0 runs.1 (omega arith) says on))
        (λ n left on.
        tests_safe rest (number + names_in_block block) scope own other A S (after_whole see loose scope e h) names
        under n left last kept next (omega arith) (omega arith) (omega arith) says
        (λ g m more_left is on2.
        safe g m more_left is
        (goes_later types owner permits ways laws key loose result below base fs sizes size running own
        ((number + names_in_block block) + names_in_tests rest)
        (number + (names_in_block block + names_in_tests rest)) g names under m (omega arith) on2))
        ahead.1.1 runs.2
        (goes_later types owner permits ways laws key loose result below base fs sizes size running own number
        (number + names_in_block block) (after_whole see loose scope e h) names under n (omega arith) on))

    pub arms_safe : (all : Arms Bytes T C) (number : ℕ) (scope : Scope) (note : T) (own : List Act)
        (A : Standing → Type 0) (S : Names → Type 0) (h : Standing) (names : Names) (under parts : Made) (tag : ℕ)
        (ts : List Meaning) (w : World) (ticks : ℕ) (kept next : ℕ) → kept ≤ number → number + names_in_arms all ≤ next
        → number + names_in_arms all ≤ size → S names → AheadArms see loose number scope (tokens own) note all A h
        → RunsArms types owner see known result loose permits key
        (is_active (own ++ below)) number scope note all tag ts names
        → types_made parts ≡ ts → Gos own number h names (onto parts under) w
        → GoodHeld types owner permits (key ∷ ways) (Ending own kept next names A S under)
        (run_arms see invoke depth number scope note all (tag, values_of parts) w ticks)
    arms_safe no_arms number scope note own A S h names under parts tag ts w ticks kept next fewer more room says ahead
        runs typed going =
        absurd runs
    arms_safe (arms at name binds block rest) number scope note own A S h names under parts tag ts w ticks kept next
        fewer more room says ahead runs typed going =
        either_safe owner _ (Ending own kept next names A S under) (means_case see note name.name tag) _ _
        (within number (length binds + names_in_block block)
        (statement.binds_fields number binds (fields_told see note tag) (values_of parts)
        >> run_all see invoke depth (number + length binds) (with_bound (fields_told see note tag) number binds scope)
        block)) (run_arms see invoke depth (number + (length binds + names_in_block block)) scope note rest
        (tag, values_of parts)) w ticks runs
        (λ fits.
        weaker own number kept number next names A S under
        (within number (length binds + names_in_block block)
        (statement.binds_fields number binds (fields_told see note tag) (values_of parts)
        >> run_all see invoke depth (number + length binds) (with_bound (fields_told see note tag) number binds scope)
        block)) w ticks fewer (omega arith)
        (arm_safe types owner permits ways laws key loose result below base fs sizes size running see known invoke
        calls_safe
        waiting own number (names_in_block block) binds (fields_told see note tag) fits.0 ts A S h names parts under w
        ticks (run_all see invoke depth (number + length binds) (with_bound (fields_told see note tag) number binds
        scope) block) fits.1 fits.2.0 typed (omega arith) says going
        (λ m last on.
        all_safe block (number + length binds) (with_bound (fields_told see note tag) number binds scope) own
        (Over see loose number (length binds + names_in_block block) A) (put_each number (length binds) forest.ready h)
        (with_types number (fits.2.0).bound names) under m last (ahead.0 tag) fits.2.1 (omega arith) on)))
        (λ fits.
        arms_safe rest (number + (length binds + names_in_block block)) scope note own A S h names under parts tag ts w
        ticks kept next (omega arith) (omega arith) (omega arith) says ahead.1 fits typed
        (goes_later types owner permits ways laws key loose result below base fs sizes size running own number
        (number + (length binds + names_in_block block)) h names (onto parts under) w (omega arith) going))
