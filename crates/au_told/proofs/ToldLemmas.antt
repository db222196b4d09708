-- What holds of each item of a list, so far and of all of it; numbers among operands; and names that are
-- plain.
use Rattle.std.proofs.Common.{◌≡◌, ℕ, zero, suc, ◌+◌, ◌<◌, ◌≤◌, ◌^◌, List, [], ◌∷◌, ◌++◌, length, take}
use Rattle.std.proofs.Common.{get_or}
use Rattle.std.proofs.Common.{refl, sym, ap, ◌∙◌, subst, arith, true≢false}
use Rattle.std.specs.List.{AllByRecursion, list_all}
use Rattle.std.proofs.lemmas.Bool.{and_parts}
use Rattle.std.proofs.lemmas.List.{take_all, take_more}
use Rattle.au_low.specs.declared.code.LowType.{LowType}
use Rattle.au_shipped.specs.declared.prims.ShippedCall.{ShippedCall}
use Rattle.au_shipped.specs.declared.prims.ShippedCall.TheVariants as prim
use Rattle.au_cprint.specs.Words.{call_home, name}
use Rattle.au_cprint.specs.Instructions.{labels, numbers}
use Rattle.au_cprint.specs.Told.{IsShort, IsTold, IsToldType, IsUnquoted}
use Rattle.au_told.specs.Names.{IsPlain, IsPlainType, is_plain}
use Rattle.au_told.proofs.PlainLemmas.{all_both}

module _ {A : Type 0} (P : A → Type 0) where
  -- one of them
  pub all_index : (xs : List A) (i : ℕ) (x : A) → i < length xs → AllByRecursion P xs → P (get_or xs i x)
  all_index [] i x lt h = absurd (omega (arith, lt))
  all_index (y ∷ ys) zero x lt h = h.0
  all_index (y ∷ ys) (suc i) x lt h = all_index ys i x (omega (arith, lt)) h.1

  -- one more
  pub all_more : (xs : List A) (i : ℕ) (x : A) → x ≡ get_or xs i x → i < length xs → AllByRecursion P
      (take i xs)
      → P x → AllByRecursion P (take (i + 1) xs)
  all_more xs i x is lt h k =
      subst (AllByRecursion P) (sym (take_more xs i x lt))
      (all_both P (take i xs) (get_or xs i x ∷ []) h (subst P is k, tt))

  -- nothing is left
  pub all_taken : (xs : List A) (i : ℕ) → length xs ≤ i → AllByRecursion P (take i xs) → AllByRecursion P xs
  all_taken xs i past h = subst (AllByRecursion P) (take_all i xs past) h

-- numbers that have 32 bits each
pub all_short : (xs : List ℕ) → ((i : ℕ) → get_or xs i 0 < 2 ^ 32) → AllByRecursion IsShort xs
all_short [] h = tt
all_short (x ∷ xs) h = (h 0, all_short xs (λ i. h (suc i)))

pub numbers_told : (ns : List ℕ) → AllByRecursion IsShort ns → AllByRecursion IsTold (numbers ns)
numbers_told [] h = tt
numbers_told (n ∷ ns) h = (h.0, numbers_told ns h.1)

pub labels_told : (ns : List ℕ) → AllByRecursion IsShort ns → AllByRecursion IsTold (labels ns)
labels_told [] h = tt
labels_told (n ∷ ns) h = (h.0, labels_told ns h.1)

-- ---- names

plain_unquoted : (text : List ℕ) → IsPlain text → IsUnquoted text
plain_unquoted [] h = tt
plain_unquoted (b ∷ text) h =
    let both = and_parts (is_plain b) (list_all is_plain text) h in
    (λ e. true≢false (sym both.0 ∙ ap is_plain e), plain_unquoted text both.1)

pub type_told : (one : LowType) → IsPlainType one → IsToldType one
type_told one h = (plain_unquoted one.text h.0, plain_unquoted one.«module» h.1)

pub types_told : (all : List LowType) → AllByRecursion IsPlainType all → AllByRecursion IsToldType all
types_told [] h = tt
types_told (one ∷ all) h = (type_told one h.0, types_told all h.1)

-- the modules of shipped calls
home_plain : (call : ShippedCall) → IsPlain (call_home call)
home_plain prim.MakeBox = refl
home_plain prim.Unbox = refl
home_plain prim.BoxGet = refl
home_plain prim.BoxGetMut = refl
home_plain prim.MakeEmpty = refl
home_plain prim.DestroyEmpty = refl
home_plain prim.Length = refl
home_plain prim.InsertBack = refl
home_plain prim.RemoveBack = refl
home_plain prim.Nth = refl
home_plain prim.ReplaceNth = refl
home_plain prim.AcquireTerminal = refl
home_plain prim.ReadByte = refl
home_plain prim.WriteByte = refl
home_plain prim.ReleaseTerminal = refl
home_plain other = refl

pub named_told : (ns text : List ℕ) → AllByRecursion IsShort ns → IsPlain text
    → AllByRecursion IsTold (numbers ns ++ name text ∷ [])
named_told ns text h k =
    all_both IsTold (numbers ns) (name text ∷ []) (numbers_told ns h) (plain_unquoted text k, tt)

pub home_told : (ns : List ℕ) (call : ShippedCall) → AllByRecursion IsShort ns
    → AllByRecursion IsTold (numbers ns ++ name (call_home call) ∷ [])
home_told ns call h = named_told ns (call_home call) h (home_plain call)

pub ruleset told_steps = (numbers_told, labels_told, named_told, home_told)
