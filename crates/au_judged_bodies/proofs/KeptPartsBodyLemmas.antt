-- All through a body, no variable in scope is consumed in a part that may be left out.
use Rattle.std.proofs.Common.{◌≡◌, ℕ, ◌+◌, ◌≤◌, Bool, true, false, ◌&&◌, List, [], ◌∷◌, length, map, Option}
use Rattle.std.proofs.Common.{refl}
use Rattle.std.proofs.Common.{subst, arith, if◌then◌else◌}
use Rattle.std.proofs.lemmas.Bool.{and_parts}
use Rattle.std.specs.Str.{bytes_eq}
use Rattle.au_lives.specs.declared.lives.Sort.{Sort}
use Rattle.au_lives.specs.Lives as life
use Rattle.au_lives.specs.Lives.{GoodLife, each_in, each_in_arms, each_in_block, each_in_branches, held_from}
use Rattle.au_lives.specs.Lives.{is_free}
use Rattle.au_lives.specs.Lives.{keeps_in_parts, tighter}
use Rattle.au_lives.specs.Mentions.{keeps_parts}
use Rattle.au_lives.specs.Paths as paths
use Rattle.au_lives.specs.Paths.{access_of, bound_names, declared, declared_by}
use Rattle.au_meaning.specs.Expressions.{note_of}
use Rattle.au_meaning.specs.Meanings.{scope_of}
use Rattle.au_meaning.specs.Names.{Scope, Variable, borrowed, mode_of, names_in, names_in_block}
use Rattle.au_meaning.specs.Names.{names_in_tests, type_in}
use Rattle.au_meaning.specs.Names.{variable_of, with_bound, with_reference}
use Rattle.au_meaning.specs.Statements.{after, fields_noted, fields_told, with_counter}
use Rattle.au_meaning.specs.Views.{Field, Function, View}
use Rattle.au_syntax.specs.declared.types.Access.{Access}
use Rattle.au_syntax.specs.declared.types.Access.TheVariants as access
use Rattle.au_syntax.specs.Expressions.{Expression}
use Rattle.au_syntax.specs.Plain.{Bytes, plain_arms, plain_bound, plain_branches, plain_expression}
use Rattle.au_syntax.specs.Plain.{plain_statement}
use Rattle.au_syntax.specs.Plain.{plain_statements}
use Rattle.au_syntax.specs.Statements.{Statement, Statements, Branches, Arms, skip, declare, destructure}
use Rattle.au_syntax.specs.Statements.{assign, assign_through, conditional, conditional_else, case_of}
use Rattle.au_syntax.specs.Statements.{while_loop, for_loop, borrow_in, borrow_typed, discard, return_of}
use Rattle.au_syntax.specs.Statements.{no_statements, statements, no_branches, branches, no_arms, arms}
use Rattle.au_syntax.specs.Types.{Bound}
use Rattle.au_judged_bodies.specs.Kept.{Keeps, PartsAreKept}
use Rattle.au_judged_bodies.proofs.KeptPartsExpressionLemmas.{keeps}
use Rattle.au_judged_bodies.specs.Lived.{Lives, SaysSorts}
use Rattle.au_judged_bodies.specs.Parts.{Declares, Each, EachArm, EachBound, EachIn, EachTest}
use Rattle.au_judged_bodies.proofs.BornLemmas.{after_grows, after_hold, after_shows, bound_grow, bound_hold}
use Rattle.au_judged_bodies.proofs.BornLemmas.{bound_shows}
use Rattle.au_judged_bodies.proofs.LivedLemmas.{nothing_named, parameters_hold, parameters_numbered}
use Rattle.au_judged_bodies.proofs.ScopeLemmas.{Holds, Numbered, apart, higher, holds_more}
use Rattle.au_judged_bodies.proofs.ScopeLemmas.{more_numbered}

-- how a variable is held where its name isn't that of another
abbrev IsShown : life.Hold → Type 0
IsShown h = h ≡ life.hidden → ⊥

unlent_shown : IsShown life.unlent
unlent_shown e = absurd cc

tighter_shown : (a : Access) (h : life.Hold) → IsShown h → IsShown (tighter a h)
tighter_shown a life.hidden shown e = shown refl
tighter_shown access.Write life.unlent shown e = absurd cc
tighter_shown access.Write life.read_lent shown e = absurd cc
tighter_shown access.Write life.write_lent shown e = absurd cc
tighter_shown access.Read life.unlent shown e = absurd cc
tighter_shown access.Read life.read_lent shown e = absurd cc
tighter_shown access.Read life.write_lent shown e = absurd cc

module _ {I T C : Type 0} (see : View I T C) (sorts : ℕ → Sort) where
  -- what is asked of an expression, and of names nothing
  abbrev E : Scope → Expression Bytes T C → Type 0
  E scope e = Keeps see scope e

  abbrev D : ℕ → Scope → Bytes → Statements Bytes T C → Type 0
  D number scope x block = Unit {0}

  -- each variable passes, however it is held there
  abbrev Passes : Scope → ((Bytes → Bool → life.Hold → Bool) → Type 0)
  Passes scope test =
      Holds scope (λ x k. (h : life.Hold) × IsShown h × (test x (is_free (sorts k)) h ≡ true))

  abbrev here : Statement Bytes T C → Bytes → Bool → life.Hold → Bool
  here s x free h = each_in x (keeps_in_parts x free) (plain_statement (λ (b : Bytes). b) s) h

  abbrev within : Statements Bytes T C → Bytes → Bool → life.Hold → Bool
  within b x free h = each_in_block x (keeps_in_parts x free) (plain_statements (λ (b : Bytes). b) b) h

  in_parts : (x : Bytes) (free : Bool) (e : Expression Bytes T C) (h : life.Hold) → IsShown h
      → keeps_in_parts x free h (plain_expression (λ (b : Bytes). b) e) ≡ true
      → keeps_parts x free (plain_expression (λ (b : Bytes). b) e) ≡ true
  in_parts x free e life.unlent shown is = is
  in_parts x free e life.read_lent shown is = is
  in_parts x free e life.write_lent shown is = is
  in_parts x free e life.hidden shown is = absurd (shown refl)

  -- an expression in a statement
  expression : (number : ℕ) (scope : Scope) (e : Expression Bytes T C) → Numbered number scope
      → SaysSorts sorts see scope e
      → Passes scope (λ x free h. keeps_in_parts x free h (plain_expression (λ (b : Bytes). b) e))
      → Keeps see scope e
  expression number scope e numbered says passes =
      keeps see sorts number scope numbered e says (λ x v there.
      let p = passes x v there in in_parts x (is_free (sorts v.number)) e p.0 p.1 p.2)

  -- one of two tests
  first_of : (scope : Scope) (a b : Bytes → Bool → life.Hold → Bool)
      → Passes scope (λ x free h. a x free h && b x free h)
      → Passes scope a
  first_of scope a b passes x v there =
      let p = passes x v there in
      let free = is_free (sorts v.number) in (p.0, p.1, (and_parts (a x free p.0) (b x free p.0) p.2).0)

  second_of : (scope : Scope) (a b : Bytes → Bool → life.Hold → Bool)
      → Passes scope (λ x free h. a x free h && b x free h)
      → Passes scope b
  second_of scope a b passes x v there =
      let p = passes x v there in
      let free = is_free (sorts v.number) in (p.0, p.1, (and_parts (a x free p.0) (b x free p.0) p.2).1)

  -- a name with a good life passes over its block
  begins : (x : Bytes) (k : ℕ) (block : Statements Bytes T C)
      → GoodLife x (sorts k) (plain_statements (λ (b : Bytes). b) block)
      → (h : life.Hold) × IsShown h × (within block x (is_free (sorts k)) h ≡ true)
  begins x k block good = (life.unlent, unlent_shown, good.parts)

  -- a block whose name is declared there
  with_one : (number : ℕ) (scope : Scope) (n : Bytes) (block : Statements Bytes T C) (more : Scope)
      → ((F : Bytes → ℕ → Type 0) → Holds scope F → F n number → Holds more F)
      → Lives sorts see number scope n block
      → Passes scope (λ x free h. within block x free (held_from x (declared n ∷ []) h))
      → Passes more (within block)
  with_one number scope n block more holds new passes =
      holds (λ x k. (h : life.Hold) × IsShown h × (within block x (is_free (sorts k)) h ≡ true))
      (λ x v there.
      let p = passes x v there in (
        p.0,
        p.1,
        subst (λ (b : Bool). within block x (is_free (sorts v.number))
            (if b then life.hidden else p.0) ≡ true)
            (apart scope n x v new.0 there) p.2,
      ))
      (begins n number block new.1)

  -- one whose name holds a reference to a variable
  with_lent : (number : ℕ) (scope : Scope) (a : Access) (y n : Bytes) (block : Statements Bytes T C)
      (more : Scope)
      → ((F : Bytes → ℕ → Type 0) → Holds scope F → F n number → Holds more F)
      → Lives sorts see number scope n block
      → Passes scope (λ x free h. within block x free (held_from x (declared n ∷ paths.lent a y ∷ []) h))
      → Passes more (within block)
  with_lent number scope a y n block more holds new passes =
      holds (λ x k. (h : life.Hold) × IsShown h × (within block x (is_free (sorts k)) h ≡ true))
      (λ x v there.
      let p = passes x v there in
      by x v p.0 p.1 (bytes_eq y x) (subst (λ (b : Bool). within block x (is_free (sorts v.number))
      (if b then life.hidden else (if bytes_eq y x then tighter a p.0 else p.0)) ≡ true)
      (apart scope n x v new.0 there) p.2))
      (begins n number block new.1)
    where
      by : (x : Bytes) (v : Variable) (h : life.Hold) → IsShown h → (b : Bool)
          → within block x (is_free (sorts v.number)) (if b then tighter a h else h) ≡ true
          → (g : life.Hold) × IsShown g × (within block x (is_free (sorts v.number)) g ≡ true)
      by x v h shown true is = (tighter a h, tighter_shown a h shown, is)
      by x v h shown false is = (h, shown, is)

  -- of names nothing is asked
  bounds : (fields : Option (List Field)) (number : ℕ) (scope : Scope) (binds : List (Bound Bytes))
      (block : Statements Bytes T C) → EachBound see E D fields number scope binds block
  bounds fields number scope [] block = tt
  bounds fields number scope (b ∷ rest) block =
      (tt, bounds fields (number + 1) (with_bound fields number (b ∷ []) scope) rest block)

  declares : (number : ℕ) (scope : Scope) (s : Statement Bytes T C) (rest : Statements Bytes T C)
      → Declares see E D number scope s rest
  declares number scope (declare at binding x t e) rest = tt
  declares number scope (destructure at binds e) rest = bounds (fields_noted see
      (note_of e)) number scope binds rest
  declares number scope other rest = tt

  mutual
    go : (number : ℕ) (scope : Scope) (s : Statement Bytes T C) → Numbered number scope
        → Each see (SaysSorts sorts see) (Lives sorts see) number scope s → Passes scope (here s)
        → Each see E D number scope s
    go number scope (skip at) numbered each passes = tt
    go number scope (declare at binding x t e) numbered each passes = expression number scope e numbered each
        passes
    go number scope (destructure at binds e) numbered each passes = expression number scope e numbered each
        passes
    go number scope (assign at x fields e) numbered each passes = expression number scope e numbered each
        passes
    go number scope (assign_through at x fields e) numbered each passes = expression number scope e numbered
        each passes
    go number scope (conditional at tests) numbered each passes = go_tests number scope tests numbered each
        passes
    go number scope (conditional_else at tests block) numbered each passes =
        let base = number + names_in_tests tests in
        let far : number ≤ base = omega arith in
        let a = λ (x : Bytes) (free : Bool) (h : life.Hold).
        each_in_branches x (keeps_in_parts x free) (plain_branches (λ (b : Bytes). b) tests) h in (
          go_tests number scope tests numbered each.0 (first_of scope a (within block) passes),
          go_all base scope block (higher number scope numbered base far) each.1
              (second_of scope a (within block) passes),
        )
    go number scope (case_of at e all) numbered each passes =
        let a = λ (x : Bytes) (free : Bool) (h : life.Hold). keeps_in_parts x free h (plain_expression (λ
        (b : Bytes). b) e) in
        let b = λ (x : Bytes) (free : Bool) (h : life.Hold).
        each_in_arms x (keeps_in_parts x free) (plain_arms (λ (b : Bytes). b) all) h in (
          expression number scope e numbered each.0 (first_of scope a b passes),
          go_arms number scope (note_of e) all numbered each.1 (second_of scope a b passes),
        )
    go number scope (while_loop at e block) numbered each passes =
        let a = λ (x : Bytes) (free : Bool) (h : life.Hold). keeps_in_parts x free h (plain_expression (λ
        (b : Bytes). b) e) in (
          expression number scope e numbered each.0 (first_of scope a (within block) passes),
          go_all number scope block numbered each.1 (second_of scope a (within block) passes),
        )
    go number scope (for_loop at y first last block) numbered each passes =
        let of = see.type_of (note_of first) in
        let a = λ (x : Bytes) (free : Bool) (h : life.Hold).
        keeps_in_parts x free h (plain_expression (λ (b : Bytes). b) first) in
        let b = λ (x : Bytes) (free : Bool) (h : life.Hold).
        keeps_in_parts x free h (plain_expression (λ (b : Bytes). b) last) in
        let c = λ (x : Bytes) (free : Bool) (h : life.Hold). within block x free (held_from x
        (declared y.name ∷ []) h) in
        let rest = second_of scope a (λ x free h. b x free h && c x free h) passes in (
          expression number scope first numbered each.0 (first_of scope a
              (λ x free h. b x free h && c x free h) passes),
          expression number scope last numbered each.1 (first_of scope b c rest),
          tt,
          go_all (number + 1) (with_counter see number y.name first scope) block
              (more_numbered number scope y.name of numbered each.2.0) each.3
              (with_one number scope y.name block (with_counter see number y.name first scope)
              (λ F old new. holds_more number scope y.name of F old new) each.2 (second_of scope b c rest)),
        )
    go number scope (borrow_in at access y r region block stop) numbered each passes =
        let m = mode_of access in
        let of = borrowed m (type_in (variable_of scope y.name)) in (
          tt,
          go_all (number + 1) (with_reference m (variable_of scope y.name) number r.name scope) block
              (more_numbered number scope r.name of numbered each.0.0) each.1
              (with_lent number scope access y.name r.name block
              (with_reference m (variable_of scope y.name) number r.name scope)
              (λ F old new. holds_more number scope r.name of F old new) each.0 passes),
        )
    go number scope (borrow_typed at r t m y block stop) numbered each passes =
        let of = borrowed m (type_in (variable_of scope y.name)) in (
          tt,
          go_all (number + 1) (with_reference m (variable_of scope y.name) number r.name scope) block
              (more_numbered number scope r.name of numbered each.0.0) each.1
              (with_lent number scope (access_of m) y.name r.name block
              (with_reference m (variable_of scope y.name) number r.name scope)
              (λ F old new. holds_more number scope r.name of F old new) each.0 passes),
        )
    go number scope (discard at e) numbered each passes = expression number scope e numbered each passes
    go number scope (return_of at e) numbered each passes = expression number scope e numbered each passes

    pub go_all : (number : ℕ) (scope : Scope) (b : Statements Bytes T C) → Numbered number scope
        → EachIn see (SaysSorts sorts see) (Lives sorts see) number scope b → Passes scope (within b)
        → EachIn see E D number scope b
    go_all number scope no_statements numbered each passes = tt
    go_all number scope (statements s rest) numbered each passes =
        let next = number + names_in s in
        let more = after see number s scope in
        let grows = after_grows see sorts number scope s rest numbered each.1 in
        let b = λ (x : Bytes) (free : Bool) (h : life.Hold).
        within rest x free (held_from x (declared_by (plain_statement (λ (b : Bytes). b) s)) h) in (
          go number scope s numbered each.0 (first_of scope (here s) b passes),
          declares number scope s rest,
          go_all next more rest grows.numbered each.2
              (after_hold see sorts number scope s rest
              (λ x k. (h : life.Hold) × IsShown h × (within rest x (is_free (sorts k)) h ≡ true))
              (λ x k far good. begins x k rest good) each.1
              (λ x v there.
              let p = second_of scope (here s) b passes x v there in (
                p.0,
                p.1,
                subst (λ (h : life.Hold). within rest x (is_free (sorts v.number)) h ≡ true)
                    (after_shows see sorts number scope s rest each.1 p.0 x v there) p.2,
              ))),
        )

    go_tests : (number : ℕ) (scope : Scope) (tests : Branches Bytes T C) → Numbered number scope
        → EachTest see (SaysSorts sorts see) (Lives sorts see) number scope tests
        → Passes scope (λ x free h. each_in_branches x (keeps_in_parts x free) (plain_branches (λ
        (b : Bytes). b) tests) h)
        → EachTest see E D number scope tests
    go_tests number scope no_branches numbered each passes = tt
    go_tests number scope (branches e block rest) numbered each passes =
        let next = number + names_in_block block in
        let far : number ≤ next = omega arith in
        let a = λ (x : Bytes) (free : Bool) (h : life.Hold). keeps_in_parts x free h (plain_expression (λ
        (b : Bytes). b) e) in
        let c = λ (x : Bytes) (free : Bool) (h : life.Hold).
        each_in_branches x (keeps_in_parts x free) (plain_branches (λ (b : Bytes). b) rest) h in
        let others = second_of scope a (λ x free h. within block x free h && c x free h) passes in (
          expression number scope e numbered each.0
              (first_of scope a (λ x free h. within block x free h && c x free h) passes),
          go_all number scope block numbered each.1 (first_of scope (within block) c others),
          go_tests next scope rest (higher number scope numbered next far) each.2 (second_of scope
              (within block) c others),
        )

    go_arms : (number : ℕ) (scope : Scope) (note : T) (all : Arms Bytes T C) → Numbered number scope
        → EachArm see (SaysSorts sorts see) (Lives sorts see) number scope note all
        → Passes scope (λ x free h. each_in_arms x (keeps_in_parts x free) (plain_arms (λ
        (b : Bytes). b) all) h)
        → EachArm see E D number scope note all
    go_arms number scope note no_arms numbered each passes = tt
    go_arms number scope note (arms at name binds block rest) numbered each passes =
        let next = number + (length binds + names_in_block block) in
        let far : number ≤ next = omega arith in
        let b = λ (x : Bytes) (free : Bool) (h : life.Hold).
        within block x free (held_from x (bound_names (map (plain_bound (λ (b : Bytes). b)) binds)) h) in
        let c = λ (x : Bytes) (free : Bool) (h : life.Hold).
        each_in_arms x (keeps_in_parts x free) (plain_arms (λ (b : Bytes). b) rest) h in
        let own = first_of scope b c passes in (
          λ tag.
              let fields = fields_told see note tag in
              let grows = bound_grow see sorts fields number scope binds block numbered (each.0 tag).0 in (
                bounds fields number scope binds block,
                go_all (number + length binds) (with_bound fields number binds scope) block grows.numbered
                    (each.0 tag).1
                    (bound_hold see sorts fields number scope binds block
                    (λ x k. (h : life.Hold) × IsShown h × (within block x (is_free (sorts k)) h ≡ true))
                    (λ x k above good. begins x k block good) (each.0 tag).0
                    (λ x v there.
                    let p = own x v there in (
                      p.0,
                      p.1,
                      subst (λ (h : life.Hold). within block x (is_free (sorts v.number)) h ≡ true)
                          (bound_shows see sorts fields number scope binds block
                          (each.0 tag).0 p.0 x v there) p.2,
                    ))),
              ),
          go_arms next scope note rest (higher number scope numbered next far) each.1
              (second_of scope b c passes),
        )

pub parts_kept : (sorts : ℕ → Sort) {I T C : Type 0} (f : Function I T C) → PartsAreKept sorts f
parts_kept sorts f lived =
    let numbered = parameters_numbered f.view sorts f.body f.first [] f.parameters
    (nothing_named f.first) lived.parameters in
    go_all f.view sorts (f.first + length f.parameters) (scope_of f) f.body numbered lived.body
    (parameters_hold f.view sorts f.body f.first [] f.parameters
    (λ x k. (h : life.Hold) × (h ≡ life.hidden → ⊥)
    × (each_in_block x (keeps_in_parts x (is_free (sorts k))) (plain_statements (λ
    (b : Bytes). b) f.body) h ≡ true))
    (λ x k good. (life.unlent, unlent_shown, good.parts)) lived.parameters (λ x v there. absurd cc))
