-- Names that a body declares: they are new, and have good lives.
use Rattle.std.proofs.Common.{◌≡◌, ℕ, suc, ◌+◌, ◌≤◌, Bool, true, false, List, [], ◌∷◌, map, length, Option}
use Rattle.std.proofs.Common.{Some, None, refl, sym, ap, subst, ◌∙◌, arith, if◌then◌else◌}
use Rattle.std.specs.Str.{bytes_eq}
use Rattle.au_ahead.specs.Ahead.{AheadAll, Ends}
use Rattle.au_ahead.proofs.MoreLemmas.{more_all}
use Rattle.au_ahead.proofs.WalkLemmas.{good_ahead}
use Rattle.au_lives.specs.declared.lives.Sort.{Sort}
use Rattle.au_lives.specs.Lives as life
use Rattle.au_lives.specs.Lives.{GoodLife, held_from}
use Rattle.au_lives.specs.Paths as paths
use Rattle.au_lives.specs.Paths.{bound_names, declared_by}
use Rattle.au_memory.specs.Forests.{Hold, ready}
use Rattle.au_meaning.specs.Expressions.{note_of}
use Rattle.au_meaning.specs.Names.{Scope, Variable, bound_name, names_in, variable_of, with_bound}
use Rattle.au_meaning.specs.Statements.{after, fields_noted}
use Rattle.au_meaning.specs.Views.{Field, View}
use Rattle.au_syntax.specs.Names.{Placed, Renaming}
use Rattle.au_syntax.specs.Plain.{Bytes, plain_bound, plain_statement, plain_statements}
use Rattle.au_syntax.specs.Statements.{Statement, Statements, skip, declare, destructure, assign}
use Rattle.au_syntax.specs.Statements.{assign_through}
use Rattle.au_syntax.specs.Statements.{conditional, conditional_else, case_of, while_loop, for_loop}
use Rattle.au_syntax.specs.Statements.{borrow_in}
use Rattle.au_syntax.specs.Statements.{borrow_typed, discard, return_of}
use Rattle.au_syntax.specs.Types.{Bound}
use Rattle.au_judged_bodies.specs.Lived.{Lives, SaysSorts}
use Rattle.au_judged_bodies.specs.Parts.{Declares, EachBound}
use Rattle.au_judged_bodies.specs.NamesAheadStanding.{hold_of, is_named}
use Rattle.au_judged_bodies.proofs.ScopeLemmas.{Extends, Holds, Numbered, apart, at_number, extends_more}
use Rattle.au_judged_bodies.proofs.ScopeLemmas.{extends_on, extends_self, higher, holds_more, more_numbered}
use Rattle.au_judged_bodies.proofs.ScopeLemmas.{named}
use Rattle.au_judged_bodies.proofs.NamesAheadStandLemmas.{of_field}
use Rattle.au_judged_bodies.proofs.StepLemmas.{Well}

-- a scope goes on as another, with names up to a number
pub record Grows (number top : ℕ) (scope more : Scope) : Type 0 where
  pub numbered : Numbered top more
  pub extends : Extends number scope more

-- what isn't in a longer scope isn't in the shorter one
pub well_more : (number : ℕ) (scope more : Scope) (zs : List ℕ) (lent : ℕ → Hold) (gone : ℕ → Bool)
    → Numbered number scope
    → Extends number scope more → Well scope zs lent gone → Well more zs lent gone
well_more number scope more zs lent gone numbered extends well = record {
  idle = λ k lacks. well.idle k (by k lacks (is_named k scope) refl);
  kept = well.kept;
  awaited = well.awaited;
}
  where
    by : (k : ℕ) → is_named k more ≡ false → (b : Bool) → is_named k scope ≡ b → is_named k scope ≡ false
    by k lacks false is = is
    by k lacks true is =
        let sure : is_named k more ≡ true =
        at_number number scope numbered (λ n. is_named n more ≡ true)
        (λ x v there. named more x v (extends.names x v there)) k is in
        let clash : true ≡ false = sym sure ∙ lacks in absurd cc

-- the name of the variable to which a field is bound
renamed : (name : Placed Bytes) (alias : Option (Placed Bytes)) (b : Bound Bytes)
    → b.name ≡ record { name = name; alias = alias }
    → (paths.bound_name (plain_bound (λ (b : Bytes). b) b)).name ≡ bound_name b.name
renamed name alias b is =
    subst (λ (r : Renaming Bytes).
    (paths.bound_name (plain_bound (λ (b : Bytes). b) (record { name = r; of = b.of }))).name ≡ bound_name r)
    (sym is)
    (by alias)
  where
    by : (alias : Option (Placed Bytes))
        → (paths.bound_name (plain_bound (λ (b : Bytes). b) (record {
          name = record { name = name; alias = alias };
          of = b.of;
        }))).name
        ≡ bound_name (record { name = name; alias = alias })
    by None = refl
    by (Some other) = refl

pub same_bound : (b : Bound Bytes) → (paths.bound_name (plain_bound (λ
    (b : Bytes). b) b)).name ≡ bound_name b.name
same_bound b = renamed b.name.name b.name.alias b refl

module _ {I T C : Type 0} (see : View I T C) (sorts : ℕ → Sort) where
  -- ---- they are new

  pub bound_grow : (fields : Option (List Field)) (number : ℕ) (scope : Scope) (binds : List (Bound Bytes))
      (block : Statements Bytes T C) → Numbered number scope
      → EachBound see (SaysSorts sorts see) (Lives sorts see) fields number scope binds block
      → Grows number (number + length binds) scope (with_bound fields number binds scope)
  bound_grow fields number scope [] block numbered each =
      let same : number ≡ number + 0 = omega arith in
      record {
        numbered = subst (λ
            (n : ℕ). Numbered n scope) same numbered;
        extends = extends_self number scope;
      }
  bound_grow fields number scope (b ∷ rest) block numbered each =
      let more = with_bound fields number (b ∷ []) scope in
      let first = more_numbered number scope (bound_name b.name) (of_field fields b) numbered each.0.0 in
      let extends = extends_more number scope (bound_name b.name) (of_field fields b) numbered each.0.0 in
      let others = bound_grow fields (number + 1) more rest block first each.1 in
      let same : (number + 1) + length rest ≡ number + suc (length rest) = omega arith in
      let far : number ≤ number + 1 = omega arith in
      record {
        numbered = subst (λ (n : ℕ). Numbered n (with_bound fields
            (number + 1) rest more)) same others.numbered;
        extends = extends_on number (number + 1) scope more (with_bound fields
            (number + 1) rest more) far extends
            others.extends;
      }

  pub after_grows : (number : ℕ) (scope : Scope) (s : Statement Bytes T C) (rest : Statements Bytes T C)
      → Numbered number scope → Declares see (SaysSorts sorts see) (Lives sorts see) number scope s rest
      → Grows number (number + names_in s) scope (after see number s scope)
  after_grows number scope (declare at binding x t e) rest numbered each = record {
    numbered = more_numbered number scope x.name (see.type_of (note_of e)) numbered each.0;
    extends = extends_more number scope x.name (see.type_of (note_of e)) numbered each.0;
  }
  after_grows number scope (destructure at binds e) rest numbered each =
      bound_grow (fields_noted see (note_of e)) number scope binds rest numbered each
  after_grows number scope other rest numbered each =
      let far : number ≤ number + names_in other = omega arith in record {
        numbered = higher number scope numbered (number + names_in other) far;
        extends = extends_self number scope;
      }

  -- ---- they hide none that is in scope

  pub bound_shows : (fields : Option (List Field)) (number : ℕ) (scope : Scope) (binds : List (Bound Bytes))
      (block : Statements Bytes T C) → EachBound see (SaysSorts sorts see)
      (Lives sorts see) fields number scope binds block
      → (h : life.Hold) (x : Bytes) (v : Variable) → variable_of scope x ≡ Some v
      → held_from x (bound_names (map (plain_bound (λ (b : Bytes). b)) binds)) h ≡ h
  bound_shows fields number scope [] block each h x v there = refl
  bound_shows fields number scope (b ∷ rest) block each h x v there =
      let more = with_bound fields number (b ∷ []) scope in
      let others = held_from x (bound_names (map (plain_bound (λ (b : Bytes). b)) rest)) h in
      let differ : bytes_eq (bound_name b.name) x ≡ false = apart scope
      (bound_name b.name) x v each.0.0 there in
      let still : variable_of more x ≡ Some v =
      ap (λ (u : Bool). if u then Some (record {
        name = bound_name b.name;
        number = number;
        of = of_field fields b;
      }) else variable_of scope x) differ ∙ there in
      let written : bytes_eq (paths.bound_name (plain_bound (λ (b : Bytes). b) b)).name x ≡ false =
      ap (λ (n : Bytes). bytes_eq n x) (same_bound b) ∙ differ in
      ap (λ (u : Bool). if u then life.hidden else others) written
      ∙ bound_shows fields (number + 1) more rest block each.1 h x v still

  pub after_shows : (number : ℕ) (scope : Scope) (s : Statement Bytes T C) (rest : Statements Bytes T C)
      → Declares see (SaysSorts sorts see) (Lives sorts see) number scope s rest
      → (h : life.Hold) (x : Bytes) (v : Variable)
      → variable_of scope x ≡ Some v → held_from x (declared_by (plain_statement (λ (b : Bytes). b) s)) h ≡ h
  after_shows number scope (declare at binding n t e) rest each h x v there =
      ap (λ (b : Bool). if b then life.hidden else h) (apart scope n.name x v each.0 there)
  after_shows number scope (destructure at binds e) rest each h x v there =
      bound_shows (fields_noted see (note_of e)) number scope binds rest each h x v there
  after_shows number scope (skip at) rest each h x v there = refl
  after_shows number scope (assign at y fields e) rest each h x v there = refl
  after_shows number scope (assign_through at y fields e) rest each h x v there = refl
  after_shows number scope (conditional at tests) rest each h x v there = refl
  after_shows number scope (conditional_else at tests block) rest each h x v there = refl
  after_shows number scope (case_of at e all) rest each h x v there = refl
  after_shows number scope (while_loop at e block) rest each h x v there = refl
  after_shows number scope (for_loop at y a z block) rest each h x v there = refl
  after_shows number scope (borrow_in at access y r region block stop) rest each h x v there = refl
  after_shows number scope (borrow_typed at r t m y block stop) rest each h x v there = refl
  after_shows number scope (discard at e) rest each h x v there = refl
  after_shows number scope (return_of at e) rest each h x v there = refl

  -- ---- what holds of names with good lives holds of them

  pub bound_hold : (fields : Option (List Field)) (number : ℕ) (scope : Scope) (binds : List (Bound Bytes))
      (block : Statements Bytes T C) (F : Bytes → ℕ → Type 0)
      → ((x : Bytes) (k : ℕ) → number ≤ k → GoodLife x (sorts k) (plain_statements (λ (b : Bytes). b) block)
      → F x k)
      → EachBound see (SaysSorts sorts see) (Lives sorts see) fields number scope binds block → Holds scope F
      → Holds (with_bound fields number binds scope) F
  bound_hold fields number scope [] block F new each old = old
  bound_hold fields number scope (b ∷ rest) block F new each old =
      let more = with_bound fields number (b ∷ []) scope in
      bound_hold fields (number + 1) more rest block F (λ x k far good. new x k (omega
      (arith, far)) good) each.1
      (holds_more number scope (bound_name b.name) (of_field fields b) F old
      (new (bound_name b.name) number (omega arith) each.0.1))

  pub after_hold : (number : ℕ) (scope : Scope) (s : Statement Bytes T C) (rest : Statements Bytes T C)
      (F : Bytes → ℕ → Type 0)
      → ((x : Bytes) (k : ℕ) → number ≤ k → GoodLife x (sorts k) (plain_statements (λ (b : Bytes). b) rest)
      → F x k)
      → Declares see (SaysSorts sorts see) (Lives sorts see) number scope s rest → Holds scope F
      → Holds (after see number s scope) F
  after_hold number scope (declare at binding n t e) rest F new each old =
      holds_more number scope n.name (see.type_of (note_of e)) F old (new n.name number (omega arith) each.1)
  after_hold number scope (destructure at binds e) rest F new each old =
      bound_hold (fields_noted see (note_of e)) number scope binds rest F new each old
  after_hold number scope other rest F new each old = old

-- ---- a good life begins

module _ (x : Bytes) (s : Sort) (h : Hold) (u : Bool) (P : Bool
    → Type 0) (free : h ≡ ready) (whole : u ≡ false)
    (ends : (t : Bool) → Ends s t → P t) where
  pub begins : {T C : Type 0} (b : Statements Bytes T C) → GoodLife x s (plain_statements (λ
      (b : Bytes). b) b)
      → AheadAll x s (plain_statements (λ (b : Bytes). b) b) (hold_of h) P u
  begins b good =
      let plain = plain_statements (λ (b : Bytes). b) b in
      let start : AheadAll x s plain life.unlent P false =
      more_all x s plain life.unlent (Ends s) P ends false (good_ahead x s plain good) in
      subst (λ (g : Hold). AheadAll x s plain (hold_of g) P u) (sym free)
      (subst (λ (v : Bool). AheadAll x s plain life.unlent P v) (sym whole) start)
