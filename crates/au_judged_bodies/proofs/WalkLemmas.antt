-- What lies ahead of all names, by what lies ahead of each variable.
use Rattle.std.proofs.Common.{◌≡◌, ℕ, ◌+◌, ◌≤◌, Bool, true, false, List, [], ◌∷◌, length, map, Option}
use Rattle.std.proofs.Common.{refl, sym, ap, subst, ◌∙◌, arith, if◌then◌else◌}
use Rattle.au_ahead.specs.Ahead.{Ahead, AheadAll, AheadArms, AheadBranches, Ends, OnGood}
use Rattle.au_lending.specs.Ending.{freed}
use Rattle.au_lives.specs.declared.lives.Sort.{Sort}
use Rattle.au_lives.specs.Lives as life
use Rattle.au_lives.specs.Lives.{held_from, opening_counts, unless_hidden, verdict}
use Rattle.au_lives.specs.Mentions.{Counts, borrowed_by, one_look, one_write_borrow, where_named}
use Rattle.au_lives.specs.Paths as paths
use Rattle.au_lives.specs.Paths.{access_of, assignment, assignment_behind, bound_names, declared, declared_by}
use Rattle.au_lives.specs.Paths.{opening}
use Rattle.au_lives.specs.Paths.{whole}
use Rattle.au_lives.specs.Walks.{does}
use Rattle.au_memory.specs.Forests.{Hold, empty, ready}
use Rattle.au_meaning.specs.Expressions.{note_of}
use Rattle.au_meaning.specs.Names.{Scope, borrowed, mode_of, names_in, names_in_block, names_in_tests}
use Rattle.au_meaning.specs.Names.{type_in}
use Rattle.au_meaning.specs.Names.{variable_of, with_bound, with_name, with_reference}
use Rattle.au_meaning.specs.Statements.{after, fields_noted, fields_told, with_counter}
use Rattle.au_meaning.specs.Views.{Field, View}
use Rattle.au_syntax.specs.declared.expressions.BorrowMode.{BorrowMode}
use Rattle.au_syntax.specs.declared.expressions.BorrowMode.TheVariants as mode
use Rattle.au_syntax.specs.declared.types.Access.{Access}
use Rattle.au_syntax.specs.Expressions.{Expression}
use Rattle.au_syntax.specs.Plain.{Bytes, plain_arms, plain_bound, plain_branches, plain_expression}
use Rattle.au_syntax.specs.Plain.{plain_statement}
use Rattle.au_syntax.specs.Plain.{plain_statements}
use Rattle.au_syntax.specs.Statements.{Statement, Statements, Branches, Arms, skip, declare, destructure}
use Rattle.au_syntax.specs.Statements.{assign, assign_through, conditional, conditional_else, case_of}
use Rattle.au_syntax.specs.Statements.{while_loop, for_loop, borrow_in, borrow_typed, discard, return_of}
use Rattle.au_syntax.specs.Statements.{no_statements, statements, no_branches, branches, no_arms, arms}
use Rattle.au_syntax.specs.Types.{Bound}
use Rattle.au_running_lives.specs.Lives as run
use Rattle.au_running_lives.specs.Lives.{AreReady, IsNew, IsOver, Opens, Over, Standing, Steps}
use Rattle.au_running_lives.specs.Lives.{freed_each, lending}
use Rattle.au_running_lives.specs.Lives.{put, put_each}
use Rattle.au_running_lives.specs.Uses.{IsKept, where_of}
use Rattle.au_judged_bodies.specs.Lived.{Lives, SaysSorts, loose_by, may_drop}
use Rattle.au_judged_bodies.specs.Parts.{Each, EachArm, EachBound, EachIn, EachTest}
use Rattle.au_judged_bodies.specs.NamesAheadStanding.{hold_of, is_named, left, standing}
use Rattle.au_judged_bodies.proofs.BornLemmas.{after_grows, after_hold, after_shows, begins, bound_grow}
use Rattle.au_judged_bodies.proofs.BornLemmas.{bound_hold}
use Rattle.au_judged_bodies.proofs.BornLemmas.{bound_shows, well_more}
use Rattle.au_judged_bodies.proofs.InnerLemmas.{Beyond, Walks, before_it, inner, inner_block, stand_same}
use Rattle.au_judged_bodies.proofs.OpenLemmas.{mode_is, open_held, open_same, open_well, opening_is}
use Rattle.au_judged_bodies.proofs.OpenLemmas.{shut_same, shut_well}
use Rattle.au_judged_bodies.proofs.ScopeLemmas.{Holds, Numbered, apart, at_number, beyond_named, extends_more}
use Rattle.au_judged_bodies.proofs.ScopeLemmas.{extends_on, extends_self, higher, holds_more, more_numbered}
use Rattle.au_judged_bodies.proofs.NamesAheadStandLemmas.{all_born, born, over_left, over_nothing}
use Rattle.au_judged_bodies.proofs.StepLemmas.{Well, goes_on, gone_after, keeps_all, name_asks, name_holds}
use Rattle.au_judged_bodies.proofs.StepLemmas.{whole_step}

module _ {I T C : Type 0} (see : View I T C) (sorts : ℕ → Sort) where
  -- what each variable gets through
  abbrev Lived : Scope → Statement Bytes T C → (ℕ → Hold) → (Bytes → ℕ → Bool → Type 0) → (ℕ → Bool) → Type 0
  Lived scope s lent P gone =
      Holds scope (λ x k. Ahead x (sorts k) (plain_statement (λ (b : Bytes). b) s) (hold_of (lent k)) (P x k)
      (gone k))

  abbrev LivedIn : Scope → Statements Bytes T C → (ℕ → Hold) → (Bytes → ℕ → Bool → Type 0) → (ℕ → Bool)
      → Type 0
  LivedIn scope b lent P gone =
      Holds scope (λ x k. AheadAll x (sorts k) (plain_statements (λ (b : Bytes). b) b) (hold_of (lent k))
      (P x k) (gone k))

  -- ---- a block with a name of its own

  -- The counter of a loop, which leaves all variables as they are.
  counted : (number : ℕ) (scope : Scope) (zs : List ℕ) (x : Bytes) (first : Expression Bytes T C)
      (block : Statements Bytes T C)
      (lent : ℕ → Hold) (gone : ℕ → Bool) → Numbered number scope → Well scope zs lent gone
      → Lives sorts see number scope x block → Walks see sorts (number + 1)
      (with_counter see number x first scope) block
      → Holds scope (λ y k. AheadAll y (sorts k) (plain_statements (λ (b : Bytes). b) block)
      (held_from y (declared x ∷ []) (hold_of (lent k))) (λ t. t ≡ gone k) (gone k))
      → run.AheadAll see (loose_by sorts) (number + 1) (with_counter see number x first scope) zs block
      (Over see (loose_by sorts) number (1 + names_in_block block) (λ d. (k : ℕ)
      → d k ≡ standing scope lent gone k))
      (put number ready (standing scope lent gone))
  counted number scope zs x first block lent gone numbered well new walks lives =
      let of = see.type_of (note_of first) in
      let more = with_name x number of scope in
      let same = λ (y : Bytes) (k : ℕ) (t : Bool). t ≡ gone k in
      let idle = well.idle number (beyond_named number scope numbered number (omega arith)) in
      let extends = extends_more number scope x of numbered new.0 in
      let shown : LivedIn scope block lent same gone =
      λ y v there. subst (λ (h : life.Hold). AheadAll y (sorts v.number) (plain_statements (λ
      (b : Bytes). b) block) h
      (λ t. t ≡ gone v.number) (gone v.number))
      (ap (λ (b : Bool). if b then life.hidden else hold_of (lent v.number)) (apart scope x y v new.0 there))
      (lives y v there) in
      let far : number ≤ number + 1 = omega arith in
      let many : (number + 1) + names_in_block block ≡ number + (1 + names_in_block block) = omega arith in
      let all = holds_more number scope x of
      (λ y k. AheadAll y (sorts k) (plain_statements (λ (b : Bytes). b) block) (hold_of (lent k))
      (Beyond sorts number same y k)
      (gone k))
      (before_it see sorts number scope block lent gone same numbered shown)
      (begins x (sorts number) (lent number) (gone number) (Beyond sorts number same x number) idle.0 idle.1
      (λ t e. (λ less. absurd (omega (arith, less)), λ above. e)) block new.1) in
      subst (λ (h : Standing). run.AheadAll see (loose_by sorts) (number + 1) more zs block
      (Over see (loose_by sorts) number (1 + names_in_block block) (λ d. (k : ℕ)
      → d k ≡ standing scope lent gone k)) h)
      (born lent gone number scope x of idle.0 idle.1)
      (inner see sorts number scope (number + 1) more block
      (1 + names_in_block block) numbered extends far many walks zs
      lent gone same (λ d. (k : ℕ) → d k ≡ standing scope lent gone k) (λ k lacks. (well.idle k lacks).0)
      (well_more number scope more zs lent gone numbered extends well) all
      (λ last well2 holds. stand_same number scope lent gone last numbered holds))

  -- A borrow statement, whose block has the reference.
  lends : (number : ℕ) (scope : Scope) (zs : List ℕ) (m : BorrowMode) (a : Access) (y r : Bytes)
      (block : Statements Bytes T C) (lent : ℕ → Hold) (gone : ℕ → Bool) (P : Bytes → ℕ → Bool → Type 0)
      (Q : Standing → Type 0) → a ≡ access_of m → Numbered number scope → Well scope zs lent gone
      → Lives sorts see number scope r block
      → Walks see sorts (number + 1) (with_reference m (variable_of scope y) number r scope) block
      → Holds scope (λ x k. OnGood (does x (sorts k) (opening a y) (hold_of (lent k)) (gone k))
      (AheadAll x (sorts k) (plain_statements (λ (b : Bytes). b) block)
      (held_from x (declared r ∷ paths.lent a y ∷ []) (hold_of (lent k))) (P x k)))
      → ((last : ℕ → Bool) → Well scope zs lent last → Holds scope (λ x k. P x k (last k))
      → Q (standing scope lent last))
      → Opens see (loose_by sorts) m (variable_of scope y) number (standing scope lent gone) (λ z g.
      run.AheadAll see (loose_by sorts) (number + 1) (with_reference m (variable_of scope y) number r scope)
      (z ∷ zs) block
      (Over see (loose_by sorts) number (1 + names_in_block block) (λ f. Q (λ k. freed z (f k)))) g)
  lends number scope zs m a y r block lent gone P Q same numbered well new walks lives go =
      let of = borrowed m (type_in (variable_of scope y)) in
      let more = with_name r number of scope in
      let R = λ (x : Bytes) (k : ℕ). AheadAll x (sorts k) (plain_statements (λ (b : Bytes). b) block)
      (held_from x (declared r ∷ paths.lent a y ∷ []) (hold_of (lent k))) (P x k) in
      let counts : opening_counts a ≡ borrowed_by m = ap opening_counts same ∙ opening_is m in
      let met : Holds scope (λ x k. OnGood (verdict (hold_of (lent k))
      (unless_hidden (hold_of (lent k)) (where_named x y (borrowed_by m))) (gone k)) (R x k)) =
      λ x v there. subst (λ (c : Counts). OnGood (verdict (hold_of (lent v.number))
      (unless_hidden (hold_of (lent v.number)) (where_named x y c)) (gone v.number)) (R x v.number)) counts
      (lives x v there) in
      let asks = name_asks number scope zs lent gone numbered well y (borrowed_by m) (quiet m) R met see in
      let holds = name_holds number scope zs lent gone numbered well y (borrowed_by m) (quiet m) R met see in
      (asks, λ z fresh. begun z fresh asks holds)
    where
      quiet : (m : BorrowMode) → (borrowed_by m).consumed ≡ 0
      quiet mode.Read = refl
      quiet mode.Write = refl
      quiet mode.Reborrow = refl

      begun : (z : ℕ) → IsNew z (standing scope lent gone)
          → AreReady (standing scope lent gone) (λ k. where_of k (variable_of scope y) (borrowed_by m))
          → Holds scope (λ x k. AheadAll x (sorts k) (plain_statements (λ (b : Bytes). b) block)
          (held_from x (declared r ∷ paths.lent a y ∷ []) (hold_of (lent k))) (P x k) (gone k))
          → run.AheadAll see (loose_by sorts) (number + 1) (with_reference m
          (variable_of scope y) number r scope) (z ∷ zs)
          block (Over see (loose_by sorts) number (1 + names_in_block block) (λ f. Q (λ k. freed z (f k))))
          (put number ready (lending m z (variable_of scope y) (standing scope lent gone)))
      begun z fresh asks holds =
          let of = borrowed m (type_in (variable_of scope y)) in
          let more = with_name r number of scope in
          let held = λ (k : ℕ). lending m z (variable_of scope y) lent k in
          let inside = open_well number scope zs lent gone numbered well m y asks z fresh in
          let idle = inside.idle number (beyond_named number scope numbered number (omega arith)) in
          let extends = extends_more number scope r of numbered new.0 in
          let shown : LivedIn scope block held P gone =
          λ x v there. subst (λ (h : life.Hold). AheadAll x (sorts v.number) (plain_statements (λ
          (b : Bytes). b) block) h
          (P x v.number) (gone v.number))
          (open_held number scope zs lent gone numbered well m y asks z fresh a same r new.0 x v there)
          (holds x v there) in
          let far : number ≤ number + 1 = omega arith in
          let many : (number + 1) + names_in_block block ≡ number +
          (1 + names_in_block block) = omega arith in
          let all = holds_more number scope r of
          (λ x k. AheadAll x (sorts k) (plain_statements (λ (b : Bytes). b) block) (hold_of (held k))
          (Beyond sorts number P x k)
          (gone k))
          (before_it see sorts number scope block held gone P numbered shown)
          (begins r (sorts number) (held number) (gone number) (Beyond sorts number P r number) idle.0 idle.1
          (λ t e. (λ less. absurd (omega (arith, less)), λ above. e)) block new.1) in
          let starts : standing more held gone
          ≡ put number ready (lending m z (variable_of scope y) (standing scope lent gone)) =
          born held gone number scope r of idle.0 idle.1
          ∙ ap (λ (h : Standing). put number ready h)
          (open_same number scope zs lent gone numbered well m y asks z fresh) in
          subst (λ (h : Standing). run.AheadAll see (loose_by sorts) (number + 1) more (z ∷ zs) block
          (Over see (loose_by sorts) number (1 + names_in_block block) (λ f. Q (λ k. freed z
          (f k)))) h) starts
          (inner see sorts number scope (number + 1) more block
          (1 + names_in_block block) numbered extends far many walks
          (z ∷ zs) held gone P (λ f. Q (λ k. freed z (f k))) (λ k lacks. (inside.idle k lacks).0)
          (well_more number scope more (z ∷ zs) held gone numbered extends inside) all
          (λ last well2 ends. subst Q
          (sym (shut_same number scope zs lent gone numbered well m y asks z fresh last))
          (go last (shut_well number scope zs lent gone numbered well m y asks z fresh last well2) ends)))

  -- An arm, for the case of a number, whose fields are bound.
  arm : (number : ℕ) (scope : Scope) (zs : List ℕ) (fields : Option (List Field)) (binds : List (Bound Bytes))
      (block : Statements Bytes T C) (lent : ℕ → Hold) (gone : ℕ → Bool) (P : Bytes → ℕ → Bool → Type 0)
      (Q : Standing → Type 0) → Numbered number scope → Well scope zs lent gone
      → EachBound see (SaysSorts sorts see) (Lives sorts see) fields number scope binds block
      → Walks see sorts (number + length binds) (with_bound fields number binds scope) block
      → Holds scope (λ x k. AheadAll x (sorts k) (plain_statements (λ (b : Bytes). b) block)
      (held_from x (bound_names (map (plain_bound (λ (b : Bytes). b)) binds)) (hold_of (lent k))) (P x k)
      (gone k))
      → ((last : ℕ → Bool) → Well scope zs lent last → Holds scope (λ x k. P x k (last k))
      → Q (standing scope lent last))
      → run.AheadAll see (loose_by sorts) (number + length binds)
      (with_bound fields number binds scope) zs block
      (Over see (loose_by sorts) number (length binds + names_in_block block) Q)
      (put_each number (length binds) ready (standing scope lent gone))
  arm number scope zs fields binds block lent gone P Q numbered well new walks lives go =
      let more = with_bound fields number binds scope in
      let grows = bound_grow see sorts fields number scope binds block numbered new in
      let idle = λ (k : ℕ) (far : number ≤ k). well.idle k (beyond_named number scope numbered k far) in
      let shown : LivedIn scope block lent P gone =
      λ x v there. subst (λ (h : life.Hold). AheadAll x (sorts v.number) (plain_statements (λ
      (b : Bytes). b) block) h
      (P x v.number) (gone v.number))
      (bound_shows see sorts fields number scope binds block new (hold_of (lent v.number)) x v there)
      (lives x v there) in
      let far : number ≤ number + length binds = omega arith in
      let many : (number + length binds) + names_in_block block ≡ number +
      (length binds + names_in_block block) = omega arith in
      let all = bound_hold see sorts fields number scope binds block
      (λ x k. AheadAll x (sorts k) (plain_statements (λ (b : Bytes). b) block) (hold_of (lent k))
      (Beyond sorts number P x k)
      (gone k))
      (λ x k above good. begins x (sorts k) (lent k) (gone k) (Beyond sorts number P x k) (idle k above).0
      (idle k above).1
      (λ t e. (λ less. absurd (omega (arith, less, above)), λ far. e)) block good) new
      (before_it see sorts number scope block lent gone P numbered shown) in
      subst (λ (h : Standing). run.AheadAll see (loose_by sorts) (number + length binds) more zs block
      (Over see (loose_by sorts) number (length binds + names_in_block block) Q) h)
      (all_born lent gone fields number binds scope idle)
      (inner see sorts number scope (number + length binds) more block
      (length binds + names_in_block block) numbered
      grows.extends far many walks zs lent gone P Q (λ k lacks. (well.idle k lacks).0)
      (well_more number scope more zs lent gone numbered grows.extends well) all go)

  -- the end of a path, where each variable has ended
  returned : (number : ℕ) (scope : Scope) (zs : List ℕ) (lent : ℕ → Hold) (gone : ℕ → Bool)
      → Numbered number scope
      → Well scope zs lent gone → Holds scope (λ x k. Ends (sorts k) (gone k)) → (k : ℕ)
      → IsOver (loose_by sorts k) (freed_each zs (standing scope lent gone k))
  returned number scope zs lent gone numbered well ends k = by (is_named k scope) refl
    where
      empties : (zs : List ℕ) → freed_each zs empty ≡ empty
      empties [] = refl
      empties (z ∷ zs) = empties zs

      held : (u : Bool) → Ends (sorts k) u → IsOver (may_drop (sorts k)) (freed_each zs (left u (lent k)))
      held true e =
          subst (λ (h : Hold). IsOver (may_drop (sorts k)) h) (sym (empties zs)) (over_nothing (sorts k))
      held false e =
          over_left (sorts k) false (freed_each zs (lent k)) (well.awaited k) e

      by : (b : Bool) → is_named k scope ≡ b
          → IsOver (may_drop (sorts k)) (freed_each zs (if b then left (gone k) (lent k) else empty))
      by true sure = held (gone k) (at_number number scope numbered (λ n. Ends (sorts n)
          (gone n)) ends k sure)
      by false lacks =
          subst (λ (h : Hold). IsOver (may_drop (sorts k)) h) (sym (empties zs)) (over_nothing (sorts k))

  -- ---- statements

  mutual
    walk : (number : ℕ) (scope : Scope) (zs : List ℕ) (s : Statement Bytes T C) (lent : ℕ → Hold) (gone : ℕ
        → Bool)
        (P : Bytes → ℕ → Bool → Type 0) (Q : Standing → Type 0) → Numbered number scope
        → Well scope zs lent gone
        → Each see (SaysSorts sorts see) (Lives sorts see) number scope s → Lived scope s lent P gone
        → ((last : ℕ → Bool) → Well scope zs lent last → Holds scope (λ x k. P x k (last k))
        → Q (standing (after see number s scope) lent last))
        → run.Ahead see (loose_by sorts) number scope zs s Q (standing scope lent gone)
    walk number scope zs (skip at) lent gone P Q numbered well each lives go = go gone well lives
    walk number scope zs (declare at binding x t e) lent gone P Q numbered well each lives go =
        let w = whole_step see sorts
        (loose_by sorts) number scope zs lent gone e P numbered well each lives in
        let last = λ (k : ℕ). gone_after see scope gone e k in
        let idle = w.well.idle number (beyond_named number scope numbered number (omega arith)) in
        goes_on see sorts (loose_by sorts) number scope zs lent gone e P (λ g. Q (put number ready g)) w
        (subst Q (born lent last number scope x.name (see.type_of (note_of e)) idle.0 idle.1)
        (go last w.well w.holds))
    walk number scope zs (destructure at binds e) lent gone P Q numbered well each lives go =
        let w = whole_step see sorts
        (loose_by sorts) number scope zs lent gone e P numbered well each lives in
        let last = λ (k : ℕ). gone_after see scope gone e k in
        goes_on see sorts (loose_by sorts) number scope zs lent gone e P (λ g. Q (put_each number
        (length binds) ready g)) w
        (subst Q (all_born lent last (fields_noted see (note_of e)) number binds scope
        (λ k far. w.well.idle k (beyond_named number scope numbered k far))) (go last w.well w.holds))
    walk number scope zs (assign at y fields e) lent gone P Q numbered well each lives go =
        let R = λ (x : Bytes) (k : ℕ) (s : Bool). OnGood (does x (sorts k) (assignment y.name) (hold_of
        (lent k)) s) (P x k) in
        let w = whole_step see sorts
        (loose_by sorts) number scope zs lent gone e R numbered well each lives in
        let last = λ (k : ℕ). gone_after see scope gone e k in
        goes_on see sorts (loose_by sorts) number scope zs lent gone e R
        (λ g. AreReady g (λ k. where_of k (variable_of scope y.name) one_write_borrow) × Q g) w (
          name_asks number scope zs lent last numbered w.well y.name one_write_borrow refl P w.holds see,
          go last w.well
              (name_holds number scope zs lent last numbered w.well y.name one_write_borrow refl P w.holds
              see),
        )
    walk number scope zs (assign_through at y fields e) lent gone P Q numbered well each lives go =
        let R =
        λ (x : Bytes) (k : ℕ) (s : Bool). OnGood (does x (sorts k) (assignment_behind y.name) (hold_of
        (lent k)) s) (P x k) in
        let w = whole_step see sorts
        (loose_by sorts) number scope zs lent gone e R numbered well each lives in
        let last = λ (k : ℕ). gone_after see scope gone e k in
        goes_on see sorts (loose_by sorts) number scope zs lent gone e R
        (λ g. AreReady g (λ k. where_of k (variable_of scope y.name) one_look) × Q g) w (
          name_asks number scope zs lent last numbered w.well y.name one_look refl P w.holds see,
          go last w.well (name_holds number scope zs lent last numbered w.well y.name one_look refl P w.holds
              see),
        )
    walk number scope zs (conditional at tests) lent gone P Q numbered well each lives go =
        walk_tests number scope zs tests lent gone P P Q Q numbered well each lives go go
    walk number scope zs (conditional_else at tests block) lent gone P Q numbered well each lives go =
        let base = number + names_in_tests tests in
        let far : number ≤ base = omega arith in
        let above = higher number scope numbered base far in
        walk_tests number scope zs tests lent gone
        (λ x k t. AheadAll x (sorts k) (plain_statements (λ (b : Bytes). b) block) (hold_of (lent k))
        (P x k) t) P
        (λ g. run.AheadAll see (loose_by sorts) base scope zs block
        (Over see (loose_by sorts) base (names_in_block block) Q) g) Q numbered well each.0 lives
        (λ last well2 holds. inner_block see sorts base scope block above
        (walk_all base scope block above each.1) zs lent last P Q well2 holds go) go
    walk number scope zs (case_of at e all) lent gone P Q numbered well each lives go =
        let R = λ (x : Bytes) (k : ℕ) (s : Bool). AheadArms x (sorts k) (plain_arms (λ (b : Bytes). b) all)
        (hold_of (lent k)) (P x k) s in
        let w = whole_step see sorts
        (loose_by sorts) number scope zs lent gone e R numbered well each.0 lives in
        let last = λ (k : ℕ). gone_after see scope gone e k in
        goes_on see sorts (loose_by sorts) number scope zs lent gone e R
        (λ g. run.AheadArms see (loose_by sorts) number scope zs (note_of e) all Q g) w
        (walk_arms number scope zs (note_of e) all lent last P Q numbered w.well each.1 w.holds go)
    walk number scope zs (while_loop at e block) lent gone P Q numbered well each lives go =
        let same = λ (x : Bytes) (k : ℕ) (t : Bool). t ≡ gone k in
        let R = λ (x : Bytes) (k : ℕ) (s : Bool). (s ≡ gone k)
        × AheadAll x (sorts k) (plain_statements (λ (b : Bytes). b) block) (hold_of (lent k))
        (λ t. t ≡ gone k) (gone k)
        × P x k (gone k) in
        let w = whole_step see sorts
        (loose_by sorts) number scope zs lent gone e R numbered well each.0 lives in
        goes_on see sorts (loose_by sorts) number scope zs lent gone e R
        (λ g. ((k : ℕ) → IsKept see k scope e)
        × run.AheadAll see (loose_by sorts) number scope zs block (Over see (loose_by sorts) number
        (names_in_block block)
        (λ f. (k : ℕ) → f k ≡ standing scope lent gone k)) (standing scope lent gone)
        × Q (standing scope lent gone)) w (
          keeps_all see sorts (loose_by sorts) number scope zs lent gone e R numbered w
              (λ x v there. (w.holds x v there).0),
          inner_block see sorts number scope block numbered
              (walk_all number scope block numbered each.1) zs lent gone same
              (λ f. (k : ℕ) → f k ≡ standing scope lent gone k) well (λ x v there. (w.holds x v there).1)
              (λ last well2 holds. stand_same number scope lent gone last numbered holds),
          go gone well (λ x v there. (w.holds x v there).2),
        )
    walk number scope zs (for_loop at y a b block) lent gone P Q numbered well each lives go =
        let R = λ (x : Bytes) (k : ℕ) (t : Bool). AheadAll x (sorts k) (plain_statements (λ
        (b : Bytes). b) block)
        (held_from x (declared y.name ∷ []) (hold_of (lent k))) (λ u. u ≡ t) t × P x k t in
        let S = λ (x : Bytes) (k : ℕ) (s : Bool).
        OnGood (does x (sorts k) (whole (plain_expression (λ (b : Bytes). b) b)) (hold_of (lent k)) s)
        (R x k) in
        let w = whole_step see sorts
        (loose_by sorts) number scope zs lent gone a S numbered well each.0 lives in
        let mid = λ (k : ℕ). gone_after see scope gone a k in
        let v = whole_step see sorts
        (loose_by sorts) number scope zs lent mid b R numbered w.well each.1 w.holds in
        let last = λ (k : ℕ). gone_after see scope mid b k in
        let numbered1 = more_numbered number scope y.name (see.type_of (note_of a)) numbered each.2.0 in
        goes_on see sorts (loose_by sorts) number scope zs lent gone a S
        (λ g. Steps see (loose_by sorts) scope b g (λ f. run.AheadAll see (loose_by sorts) (number + 1)
        (with_counter see number y.name a scope) zs block (Over see (loose_by sorts) number
        (1 + names_in_block block)
        (λ d. (k : ℕ) → d k ≡ f k)) (put number ready f) × Q f)) w
        (goes_on see sorts (loose_by sorts) number scope zs lent mid b R
        (λ f. run.AheadAll see (loose_by sorts) (number + 1)
        (with_counter see number y.name a scope) zs block (Over see (loose_by sorts) number
        (1 + names_in_block block)
        (λ d. (k : ℕ) → d k ≡ f k)) (put number ready f) × Q f) v (
          counted number scope zs y.name a block lent last numbered v.well each.2
              (walk_all (number + 1) (with_counter see number y.name a scope) block numbered1 each.3)
              (λ x u there. (v.holds x u there).0),
          go last v.well (λ x u there. (v.holds x u there).1),
        ))
    walk number scope zs
        (borrow_in at access y r region block stop) lent gone P Q numbered well each lives go =
        let m = mode_of access in
        let numbered1 = more_numbered number scope r.name (borrowed m (type_in
        (variable_of scope y.name))) numbered each.0.0 in
        lends number scope zs m access y.name r.name block lent gone P Q (sym
        (mode_is access)) numbered well each.0
        (walk_all (number + 1) (with_reference m
        (variable_of scope y.name) number r.name scope) block numbered1 each.1)
        lives go
    walk number scope zs (borrow_typed at r t m y block stop) lent gone P Q numbered well each lives go =
        let numbered1 = more_numbered number scope r.name (borrowed m (type_in
        (variable_of scope y.name))) numbered each.0.0 in
        lends number scope zs m (access_of m) y.name r.name block lent gone P Q refl numbered well each.0
        (walk_all (number + 1) (with_reference m
        (variable_of scope y.name) number r.name scope) block numbered1 each.1)
        lives go
    walk number scope zs (discard at e) lent gone P Q numbered well each lives go =
        let w = whole_step see sorts
        (loose_by sorts) number scope zs lent gone e P numbered well each lives in
        goes_on see sorts (loose_by sorts) number scope zs lent gone e P Q w
        (go (λ k. gone_after see scope gone e k) w.well w.holds)
    walk number scope zs (return_of at e) lent gone P Q numbered well each lives go =
        let R = λ (x : Bytes) (k : ℕ) (s : Bool). Ends (sorts k) s in
        let w = whole_step see sorts
        (loose_by sorts) number scope zs lent gone e R numbered well each lives in
        goes_on see sorts (loose_by sorts) number scope zs lent gone e R
        (λ g. (k : ℕ) → IsOver (loose_by sorts k) (freed_each zs (g k))) w
        (returned number scope zs lent (λ k. gone_after see scope gone e k) numbered w.well w.holds)

    pub walk_all : (number : ℕ) (scope : Scope) (b : Statements Bytes T C) → Numbered number scope
        → EachIn see (SaysSorts sorts see) (Lives sorts see) number scope b → Walks see sorts number scope b
    walk_all number scope no_statements numbered each zs lent gone P Q well lives ends go =
        let same : number ≡ number + 0 = omega arith in
        go scope gone (record {
          numbered = subst (λ (n : ℕ). Numbered n scope) same numbered;
          extends = extends_self number scope;
        }) well lives
    walk_all number scope (statements s rest) numbered each zs lent gone P Q well lives ends go =
        let next = number + names_in s in
        let more = after see number s scope in
        let plain = plain_statements (λ (b : Bytes). b) rest in
        let shown = declared_by (plain_statement (λ (b : Bytes). b) s) in
        let grows = after_grows see sorts number scope s rest numbered each.1 in
        let far : number ≤ next = omega arith in
        let many : next + names_in_block rest ≡ number + (names_in s + names_in_block rest) = omega arith in
        walk number scope zs s lent gone
        (λ x k t. AheadAll x (sorts k) plain (held_from x shown (hold_of (lent k))) (P x k) t)
        (λ g. run.AheadAll see (loose_by sorts) next more zs rest Q g) numbered well each.0 lives
        (λ last well2 holds. walk_all next more rest grows.numbered each.2 zs lent last P Q
        (well_more number scope more zs lent last numbered grows.extends well2)
        (after_hold see sorts number scope s rest
        (λ x k. AheadAll x (sorts k) plain (hold_of (lent k)) (P x k) (last k))
        (λ x k above good.
        let idle = well2.idle k (beyond_named number scope numbered k above) in
        begins x (sorts k) (lent k) (last k) (P x k) idle.0 idle.1 (ends x k above) rest good) each.1
        (λ x v there. subst (λ (h : life.Hold). AheadAll x (sorts v.number) plain h (P x v.number)
        (last v.number))
        (after_shows see sorts number scope s rest each.1 (hold_of (lent v.number)) x v there)
        (holds x v there)))
        (λ x k above. ends x k (omega (arith, above, far)))
        (λ end final grown well3 holds3. go end final (record {
          numbered = subst (λ (n : ℕ). Numbered n end) many grown.numbered;
          extends = extends_on number next scope more end far grows.extends grown.extends;
        }) well3 holds3))

    walk_tests : (number : ℕ) (scope : Scope) (zs : List ℕ) (tests : Branches Bytes T C) (lent : ℕ
        → Hold) (gone : ℕ → Bool)
        (O P : Bytes → ℕ → Bool → Type 0) (other Q : Standing → Type 0) → Numbered number scope
        → Well scope zs lent gone
        → EachTest see (SaysSorts sorts see) (Lives sorts see) number scope tests
        → Holds scope (λ x k. AheadBranches x (sorts k) (plain_branches (λ (b : Bytes). b) tests) (hold_of
        (lent k)) (O x k)
        (P x k) (gone k))
        → ((last : ℕ → Bool) → Well scope zs lent last → Holds scope (λ x k. O x k (last k))
        → other (standing scope lent last))
        → ((last : ℕ → Bool) → Well scope zs lent last → Holds scope (λ x k. P x k (last k))
        → Q (standing scope lent last))
        → run.AheadTests see (loose_by sorts) number scope zs tests other Q (standing scope lent gone)
    walk_tests number scope zs no_branches lent gone O P other Q numbered well each lives else' go = else'
        gone well lives
    walk_tests number scope zs
        (branches e block rest) lent gone O P other Q numbered well each lives else' go =
        let next = number + names_in_block block in
        let far : number ≤ next = omega arith in
        let R = λ (x : Bytes) (k : ℕ) (s : Bool).
        AheadAll x (sorts k) (plain_statements (λ (b : Bytes). b) block) (hold_of (lent k)) (P x k) s
        × AheadBranches x (sorts k) (plain_branches (λ (b : Bytes). b) rest) (hold_of (lent k)) (O x k)
        (P x k) s in
        let w = whole_step see sorts
        (loose_by sorts) number scope zs lent gone e R numbered well each.0 lives in
        let last = λ (k : ℕ). gone_after see scope gone e k in
        goes_on see sorts (loose_by sorts) number scope zs lent gone e R
        (λ g. run.AheadAll see (loose_by sorts) number scope zs block
        (Over see (loose_by sorts) number (names_in_block block) Q) g
        × run.AheadTests see (loose_by sorts) next scope zs rest other Q g) w (
          inner_block see sorts number scope block numbered
              (walk_all number scope block numbered each.1) zs lent last P Q
              w.well (λ x v there. (w.holds x v there).0) go,
          walk_tests next scope zs rest lent last O P other Q
              (higher number scope numbered next far) w.well each.2
              (λ x v there. (w.holds x v there).1) else' go,
        )

    walk_arms : (number : ℕ) (scope : Scope) (zs : List ℕ) (note : T) (all : Arms Bytes T C) (lent : ℕ → Hold)
        (gone : ℕ → Bool) (P : Bytes → ℕ → Bool → Type 0) (Q : Standing → Type 0) → Numbered number scope
        → Well scope zs lent gone → EachArm see (SaysSorts sorts see) (Lives sorts see) number scope note all
        → Holds scope (λ x k. AheadArms x (sorts k) (plain_arms (λ (b : Bytes). b) all) (hold_of (lent k))
        (P x k) (gone k))
        → ((last : ℕ → Bool) → Well scope zs lent last → Holds scope (λ x k. P x k (last k))
        → Q (standing scope lent last))
        → run.AheadArms see (loose_by sorts) number scope zs note all Q (standing scope lent gone)
    walk_arms number scope zs note no_arms lent gone P Q numbered well each lives go = tt
    walk_arms number scope zs note (arms at name binds block rest) lent gone P Q numbered well each lives go =
        let next = number + (length binds + names_in_block block) in
        let far : number ≤ next = omega arith in (
          λ tag. arm number scope zs (fields_told see note tag) binds block lent gone P Q numbered well
              (each.0 tag).0
              (walk_all (number + length binds) (with_bound
              (fields_told see note tag) number binds scope) block
              (bound_grow see sorts (fields_told see note tag) number scope binds block numbered
              (each.0 tag).0).numbered
              (each.0 tag).1) (λ x v there. (lives x v there).0) go,
          walk_arms next scope zs note rest lent gone P Q (higher number scope numbered next far) well each.1
              (λ x v there. (lives x v there).1) go,
        )
