-- The code of drafted functions is that of the functions.
use Rattle.std.proofs.Common.{◌≡◌, ℕ, Bool, true, false, not, cond, ◌||◌, List, [], ◌∷◌, ◌++◌, ◌+◌, Some}
use Rattle.std.proofs.Common.{length, map, nat_lt, refl, sym, ap, ◌∙◌}
use Rattle.std.specs.Str.{bytes_eq}
use Rattle.std.proofs.lemmas.List.{map-append}
use Rattle.std.proofs.lemmas.Slice.Eq.{bytes_eq-Decides}
use Rattle.std.specs.Cmp.Lexicographic.{nat_list_eq_equiv}
use Rattle.au_type_texts.specs.Keys.{key_of}
use Rattle.au_type_texts.specs.Same.{same}
use Rattle.au_type_texts.specs.Types.{ClosedType}
use Rattle.au_type_texts.proofs.SameLemmas.{same_is, same_self}
use Rattle.au_low.specs.declared.code.LowType.{LowType}
use Rattle.au_low.specs.declared.instructions.Instr.TheVariants.{Make, Shipped}
use Rattle.au_lowered.specs.Drafts.{Draft, plain, pushes_text, makes_case, ships_birth}
use Rattle.au_lowered.specs.Programs.{bodies, body_of, entry_types, lowered, numbered, function_code}
use Rattle.au_lowered.specs.Programs.{passes_limit, texts_in, texts_named, types_in, types_named, type_number}
use Rattle.au_lowering.specs.Drafted.{Drafted, all_drafts, coded, drafted, function_by}
use Rattle.au_lowering.specs.Drafted.{function_of, is_long}
use Rattle.au_lowering.specs.Keyed.{key_number, keyed}
use Rattle.au_meaning.specs.Views.{Function}
use Rattle.au_graphs.specs.Reached.{adds, has, put_new}
use Rattle.au_syntax.specs.Plain.{Bytes}
use Rattle.au_closed_programs.proofs.ClosedLemmas.{key_tells}

-- ---- types by their keys

-- two types are the same where their keys are
pub same_key : (t u : ClosedType) → bytes_eq (key_of t) (key_of u) ≡ same t u
same_key t u = by (bytes_eq (key_of t) (key_of u)) (same t u) refl refl
  where
    by : (p q : Bool) → bytes_eq (key_of t) (key_of u) ≡ p → same t u ≡ q → p ≡ q
    by true true e f = refl
    by false false e f = refl
    by true false e f =
        let one : t ≡ u = key_tells t u ((bytes_eq-Decides (key_of t) (key_of u)).0 e) in
        let itself : same t u ≡ true = ap (λ v. same t v) (sym one) ∙ same_self t in
        absurd cc
    by false true e f =
        let one : t ≡ u = same_is t u f in
        let itself : bytes_eq (key_of t) (key_of u)
        ≡ true = ap (λ v. bytes_eq (key_of t) (key_of v)) (sym one) ∙ nat_list_eq_equiv.refl
        (key_of t) in
        absurd cc

has_type : (ks : List ClosedType) (t : ClosedType) → has bytes_eq (map key_of ks) (key_of t) ≡ has same ks t
has_type [] t = refl
has_type (k ∷ ks) t = λ i. same_key t k i || has_type ks t i

-- keys that are added are those of types that are
pub keys_added : (ks ts : List ClosedType) → adds bytes_eq (map key_of ks) (map key_of ts)
    ≡ map key_of (adds same ks ts)
keys_added ks [] = refl
keys_added ks (t ∷ ts) =
    ap (λ l. adds bytes_eq l (map key_of ts))
    (by (has bytes_eq (map key_of ks) (key_of t)) (has same ks t) (has_type ks t))
    ∙ keys_added (put_new same (has same ks t) ks t) ts
  where
    by : (p q : Bool) → p ≡ q → put_new bytes_eq p (map key_of ks) (key_of t)
        ≡ map key_of (put_new same q ks t)
    by true true e = refl
    by false false e = sym (map-append key_of ks (t ∷ []))
    by true false e = absurd cc
    by false true e = absurd cc

-- the place of a key is that of its type
pub number_by : (types : List ClosedType) (t : ClosedType) → key_number (map key_of types) t
    ≡ type_number types t
number_by [] t = refl
number_by (k ∷ ks) t = λ i. cond (not (same_key k t i)) (1 + number_by ks t i) 0

draft_by : (texts : List Bytes) (types : List ClosedType) (d : Draft)
    → keyed texts (map key_of types) d ≡ numbered texts types d
draft_by texts types (plain instr) = refl
draft_by texts types (pushes_text text) = refl
draft_by texts types (makes_case of tag order home) = ap (λ n. Make n tag order home) (number_by types of)
draft_by texts types (ships_birth call of order) = ap (λ n. Shipped call (Some n) order) (number_by types of)

drafts_by : (texts : List Bytes) (types : List ClosedType) (ds : List Draft)
    → map (keyed texts (map key_of types)) ds ≡ map (numbered texts types) ds
drafts_by texts types [] = refl
drafts_by texts types (d ∷ ds) = λ i. draft_by texts types d i ∷ drafts_by texts types ds i

-- functions by the keys of types
pub functions_by : (texts : List Bytes) (types : List ClosedType) (all : List Drafted)
    → map (function_by texts (map key_of types)) all ≡ map (function_of texts types) all
functions_by texts types [] = refl
functions_by texts types (f ∷ rest) =
    λ i. record { params = f.params; slots = f.slots; code = drafts_by texts types f.drafts i }
    ∷ functions_by texts types rest i

-- ---- functions

module _ {T C : Type 0} where
  pub all_bodies : (functions : List (Function ℕ T C)) → all_drafts (map drafted functions) ≡ bodies functions
  all_bodies [] = refl
  all_bodies (f ∷ rest) = ap (λ l. body_of f ++ l) (all_bodies rest)

  function_same : (texts : List Bytes) (types : List ClosedType) (functions : List (Function ℕ T C))
      → map (function_of texts types) (map drafted functions) ≡ map (function_code texts types) functions
  function_same texts types [] = refl
  function_same texts types (f ∷ rest) = ap (λ l. function_code texts types f ∷ l)
      (function_same texts types rest)

  -- the code of drafted functions is that of the functions
  pub coded_is : (told : ClosedType → LowType) (functions : List (Function ℕ T C))
      → coded told (entry_types functions) (map drafted functions) ≡ lowered told functions
  coded_is told functions = λ i. record {
    texts = adds bytes_eq [] (texts_named (all_bodies functions i));
    types = map told (adds same [] (entry_types functions ++ types_named (all_bodies functions i)));
    functions = (ap (λ l. map
        (function_of (adds bytes_eq [] (texts_named l))
        (adds same [] (entry_types functions ++ types_named l))) (map drafted functions))
        (all_bodies functions)
        ∙ function_same (texts_in functions) (types_in functions) functions) i;
    root = nat_lt 0 (length (entry_types functions));
  }

  -- and they are too many where those are
  pub long_is : (functions : List (Function ℕ T C)) → is_long (map drafted functions) ≡ passes_limit functions
  long_is functions = ap (λ l. nat_lt 1048576 (length l)) (all_bodies functions)
