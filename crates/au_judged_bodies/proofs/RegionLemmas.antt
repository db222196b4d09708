-- Regions and type parameters that are in scope are in blocks that are open among marks.
use Rattle.std.proofs.Common.{◌≡◌, ℕ, zero, suc, ◌+◌, ◌≤◌, Bool, true, false, ◌||◌, List, [], ◌∷◌}
use Rattle.std.proofs.Common.{◌++◌, map, Option, Some, None, refl, sym, ap, subst, ◌∙◌, append_assoc, append-nil}
use Rattle.std.proofs.Common.{arith, if◌then◌else◌}
use Rattle.std.proofs.lemmas.Bool.{false_from_ne_true}
use Rattle.std.specs.List.{list_any}
use Rattle.std.specs.Str.{bytes_eq}
use Rattle.au_base.specs.declared.places.Pos.{Pos}
use Rattle.au_base.proofs.TextLemmas.{bytes_same}
use Rattle.au_judged_types.specs.Bounds.{parameters}
use Rattle.au_judged_types.specs.Meanings.{class_meant, with_classes, written_params}
use Rattle.au_program_lives.specs.Scopes.{TypeScope, opened_in}
use Rattle.au_rules.specs.declared.marks.Kind.{Kind}
use Rattle.au_rules.specs.declared.marks.Kind.TheVariants.{Types}
use Rattle.au_rules.specs.declared.marks.Mark.{Mark}
use Rattle.au_rules.specs.declared.marks.Mark.TheVariants.{Opens, Closes, Declares}
use Rattle.au_rules.specs.declared.marks.Role.TheVariants.{Local}
use Rattle.au_rules.specs.Once.{AreNew, IsInBlock, closed, opened}
use Rattle.au_syntax.specs.declared.declarations.Universe.{Universe}
use Rattle.au_syntax.specs.Modules.{Constrained}
use Rattle.au_syntax.specs.Plain.{Bytes}
use Rattle.au_types.specs.declared.types.DeclAt.{DeclAt}
use Rattle.au_types.specs.Universes.{universe_in}
use Rattle.au_judged_bodies.specs.Said.{types_of}
use Rattle.au_typing.specs.Bodies.{generics_in, outer_scope}
use Rattle.au_typing.specs.Scopes.{Outside}
use Rattle.au_judged_bodies.proofs.MarkLemmas.{Stays, stays_on, stays_open}
use Rattle.au_judged_bodies.specs.Asked.{AreInBlock}

-- ---- blocks that stay open

-- at a depth of so many blocks, up to no place more end than are open
abbrev Fewer : List Mark → ℕ → Type 0
Fewer ms n = (first rest : List Mark) → ms ≡ first ++ rest → closed first ≤ n + opened first

stays : (ms : List Mark) (n : ℕ) → Fewer ms n → Stays ms n
stays [] n fewer = tt
stays (Opens ∷ ms) n fewer =
    stays ms (suc n) (λ first rest same.
    let less : closed first ≤ n + (1 + opened first) =
    fewer (Opens ∷ first) rest (ap (λ (xs : List Mark). Opens ∷ xs) same) in omega (arith, less))
stays (Closes ∷ ms) zero fewer =
    let less : 1 ≤ 0 = fewer (Closes ∷ []) ms refl in absurd (omega (arith, less))
stays (Closes ∷ ms) (suc n) fewer =
    stays ms n (λ first rest same.
    let less : 1 + closed first ≤ suc n + opened first =
    fewer (Closes ∷ first) rest (ap (λ (xs : List Mark). Closes ∷ xs) same) in omega (arith, less))
stays (Declares role kind name at ∷ ms) n fewer =
    stays ms n (λ first rest same.
    fewer (Declares role kind name at ∷ first) rest (ap (λ (xs : List Mark). Declares role kind name at ∷ xs) same))

-- ---- what is in scope is in a block that is open

-- a region or a type parameter is declared, and its block is open still
pub record IsOpen (before : List Mark) (x : Bytes) : Type 0 where
  pub first : List Mark
  pub between : List Mark
  pub at : Pos
  pub splits : before ≡ first ++ Declares Local Types x at ∷ between
  pub stays : Stays between 0

-- so it is of each region that is open, and of each type parameter
pub record AreOpen (before : List Mark) (ts : TypeScope) : Type 0 where
  pub regions : (x : Bytes) → list_any (bytes_eq x) ts.regions ≡ true → IsOpen before x
  pub params : (x : Bytes) (u : Universe) → universe_in ts.params x ≡ Some u → IsOpen before x

open_later : (before ms : List Mark) (x : Bytes) → ((n : ℕ) → Stays ms n) → IsOpen before x
    → IsOpen (before ++ ms) x
open_later before ms x neutral here = record {
  first = here.first;
  between = here.between ++ ms;
  at = here.at;
  splits = ap (λ (xs : List Mark). xs ++ ms) here.splits
      ∙ append_assoc here.first (Declares Local Types x here.at ∷ here.between) ms;
  stays = stays_on here.between ms 0 here.stays neutral;
}

pub later : (before ms : List Mark) (ts : TypeScope) → ((n : ℕ) → Stays ms n) → AreOpen before ts
    → AreOpen (before ++ ms) ts
later before ms ts neutral are = record {
  regions = λ x there. open_later before ms x neutral (are.regions x there);
  params = λ x u there. open_later before ms x neutral (are.params x u there);
}

-- one region more
pub region_too : (before : List Mark) (ts : TypeScope) (r : Bytes) (at : Pos) → AreOpen before ts
    → AreOpen (before ++ Declares Local Types r at ∷ []) (opened_in r ts)
region_too before ts r at are = record {
  regions = λ x there. by x (bytes_eq x r) refl there;
  params = λ x u there. open_later before (Declares Local Types r at ∷ []) x (λ m. tt) (are.params x u there);
}
  where
    by : (x : Bytes) (b : Bool) → bytes_eq x r ≡ b → (b || list_any (bytes_eq x) ts.regions) ≡ true
        → IsOpen (before ++ Declares Local Types r at ∷ []) x
    by x true same there =
        subst (λ (y : Bytes). IsOpen (before ++ Declares Local Types r at ∷ []) y) (sym (bytes_same x r same))
        (record { first = before; between = []; at = at; splits = refl; stays = tt })
    by x false same there =
        open_later before (Declares Local Types r at ∷ []) x (λ m. tt) (are.regions x there)

-- a region that isn't declared again is new
module _ (foreign : Kind → Bytes → Bool) (before : List Mark) (ts : TypeScope) (x : Bytes) (at : Pos)
    (are : AreOpen before ts) (new : AreNew foreign before (Declares Local Types x at ∷ [])) where
  closed_now : IsOpen before x → ⊥
  closed_now one =
      let there : IsInBlock before Types x =
      (one.first, one.between, one.at, one.splits, stays_open one.between one.stays) in
      let here = new [] [] Local Types x at refl in
      here.2 (subst (λ (ms : List Mark). IsInBlock ms Types x) (sym (append-nil before)) there)

  no_parameter : (o : Option Universe) → universe_in ts.params x ≡ o → universe_in ts.params x ≡ None
  no_parameter None is = is
  no_parameter (Some u) is = absurd (closed_now (are.params x u is))

  pub new_region : (list_any (bytes_eq x) ts.regions ≡ false) × (universe_in ts.params x ≡ None)
  new_region = (
    false_from_ne_true (list_any (bytes_eq x) ts.regions) (λ sure. closed_now (are.regions x sure)),
    no_parameter (universe_in ts.params x) refl,
  )

-- ---- the first scope

in_block : (before : List Mark) (x : Bytes) → IsInBlock before Types x → IsOpen before x
in_block before x is = record {
  first = is.0;
  between = is.1;
  at = is.2;
  splits = is.3;
  stays = stays is.1 0 (λ first rest same.
      let less : closed first ≤ opened first = is.4 first rest same in omega (arith, less));
}

module _ (before : List Mark) (class_of : Bytes → Option DeclAt) (x : Bytes) (u : Universe) where
  pub parameters_open : (generics : List (Constrained Bytes)) → AreInBlock before generics
      → universe_in (parameters (map (with_classes class_of) generics)) x ≡ Some u → IsOpen before x
  parameters_open [] are there = absurd cc
  parameters_open (p ∷ rest) are there =
      by (bytes_eq p.parameter.name.name x) refl there (parameters_open rest are.1)
    where
      by : (b : Bool) → bytes_eq p.parameter.name.name x ≡ b
          → (if b then Some p.parameter.universe else universe_in (parameters (map (with_classes class_of) rest)) x)
          ≡ Some u
          → (universe_in (parameters (map (with_classes class_of) rest)) x ≡ Some u → IsOpen before x)
          → IsOpen before x
      by true same there others =
          subst (λ (y : Bytes). IsOpen before y) (bytes_same p.parameter.name.name x same)
          (in_block before p.parameter.name.name are.0)
      by false same there others = others there

-- before a body no region is open
pub first_open : (before : List Mark) (outside : Outside) (generics : List (Constrained Bytes))
    → AreInBlock before generics
    → AreOpen before (types_of (outer_scope outside (generics_in outside generics)))
first_open before outside generics are = record {
  regions = λ x there. absurd cc;
  params = λ x u there.
      parameters_open before (class_meant (written_params generics) outside.visible outside.heads) x u generics are
      there;
}
