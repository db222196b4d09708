-- The keys of two instances, one of the interface and one of the body, are one exactly where they are of one
-- class and their types are the same word for word.
use Rattle.std.proofs.Common.{
  ◌≡◌,
  ℕ,
  Bool,
  true,
  false,
  ◌&&◌,
  List,
  [],
  ◌∷◌,
  ◌++◌,
  length,
  Option,
  Some,
  None,
  is_none,
  refl,
  ap,
  sym,
  ◌∙◌,
  true≢false,
  append_assoc,
  arith,
}
use Rattle.std.specs.Prelude.{◌||◌, ◌/◌, ◌%◌}
use Rattle.std.specs.Str.{bytes_eq}
use Rattle.std.proofs.lemmas.Bool.{and_parts, and_from}
use Rattle.std.proofs.lemmas.Slice.Eq.{bytes_eq-Decides}
use Rattle.au_base.proofs.BoolLemmas.{same_truth}
use Rattle.au_syntax.specs.declared.types.Access.{Access}
use Rattle.au_syntax.specs.declared.types.Access.TheVariants as kinds
use Rattle.au_syntax.specs.Modules.{instance_body}
use Rattle.au_syntax.specs.Names.{Placed}
use Rattle.au_syntax.specs.Plain.{Bytes, PlainDeclaration}
use Rattle.au_syntax.specs.Types.{WrittenType, WrittenTypes, named, reference, no_types, types}
use Rattle.au_types.specs.Tables as tables
use Rattle.au_types.specs.declared.parameters.Parameter.{Parameter}
use Rattle.au_types.specs.declared.types.DeclAt.{DeclAt}
use Rattle.au_types.specs.Types.{Meaning}
use Rattle.au_types.proofs.SameLemmas.{place_is, place_self}
use Rattle.au_types.specs.Meant.{meant}
use Rattle.au_promises.specs.declared.keys.KeySort.TheVariants.{Worded, Meaningless}
use Rattle.au_promises.specs.Agreeing.{same_class, same_declaration, scope_of, Sight}
use Rattle.au_promises.specs.Defining.{has_key, key_defined, nothing_key}
use Rattle.au_promises.specs.Keys.{
  access_key,
  class_key,
  instance_key,
  meant_key,
  number_key,
  place_key,
  word_key,
  wording_key,
  wordings_key,
}
use Rattle.au_promises.specs.Promises.{instance_defined, is_name}
use Rattle.au_promises.specs.Wording.{
  declaration_meant,
  neither,
  same_access,
  same_sign,
  same_word,
  same_wording,
  same_wordings,
}

-- ---- lists of numbers

abbrev first : Bytes → ℕ
first [] = 0
first (x ∷ xs) = x

abbrev rest : Bytes → Bytes
rest [] = []
rest (x ∷ xs) = xs

-- two lists that begin with as many items
split_same : (a b xs ys : Bytes) → length a ≡ length b → a ++ xs ≡ b ++ ys → (a ≡ b) × (xs ≡ ys)
split_same [] [] xs ys many e = (refl, e)
split_same [] (y ∷ b) xs ys many e = absurd (omega (arith, many))
split_same (x ∷ a) [] xs ys many e = absurd (omega (arith, many))
split_same (x ∷ a) (y ∷ b) xs ys many e =
    let fewer : length a ≡ length b = omega (arith, many) in
    let tails = split_same a b xs ys fewer (ap rest e) in
    (ap (λ n. n ∷ a) (ap first e) ∙ ap (λ l. y ∷ l) tails.0, tails.1)

-- ---- words

number_one : (m n : ℕ) → m % 256 ≡ n % 256 → m / 256 ≡ n / 256 → m ≡ n
number_one m n low high = omega arith

halves_one : (m n : ℕ) → m % 65536 ≡ n % 65536 → m / 65536 ≡ n / 65536 → m ≡ n
halves_one m n low high = omega arith

same_number : (m n : ℕ) (xs ys : Bytes) → number_key m ++ xs ≡ number_key n ++ ys → (m ≡ n) × (xs ≡ ys)
same_number m n xs ys e = (
  number_one m n (ap first e) (ap (λ l. first (rest l)) e),
  ap (λ l. rest (rest l)) e,
)

same_place_key : (a b : DeclAt) (xs ys : Bytes) → place_key a ++ xs ≡ place_key b ++ ys → (a ≡ b) × (xs ≡ ys)
same_place_key a b xs ys e =
    let one = same_number a.«module» b.«module» _ _ e in
    let low = same_number (a.decl % 65536) (b.decl % 65536) _ _ one.1 in
    let high = same_number (a.decl / 65536) (b.decl / 65536) xs ys low.1 in
    let number : a.decl ≡ b.decl = halves_one a.decl b.decl low.0 high.0 in
    ((λ j. record { «module» = one.0 j; decl = number j }), high.1)

-- words with one key say the same
word_one : (a b : Bytes) (o p : Option DeclAt) (xs ys : Bytes) → word_key a o ++ xs ≡ word_key b p ++ ys
    → (same_declaration a b o p ≡ true) × (xs ≡ ys)
word_one a b None None xs ys e =
    let parts = split_same a b xs ys (ap (λ l. first (rest l)) e) (ap (λ l. rest (rest l)) e) in
    ((bytes_eq-Decides a b).1 parts.0, parts.1)
word_one a b (Some at) (Some by) xs ys e =
    let parts = same_place_key at by xs ys (ap rest e) in
    (ap (λ place. same_declaration a b (Some at) (Some place)) (sym parts.0) ∙ place_self at, parts.1)
word_one a b None (Some by) xs ys e = let clash : 0 ≡ 1 = ap first e in absurd (omega (arith, clash))
word_one a b (Some at) None xs ys e = let clash : 1 ≡ 0 = ap first e in absurd (omega (arith, clash))

-- words that say the same have one key
word_same : (a b : Bytes) (o p : Option DeclAt) → same_declaration a b o p ≡ true
    → word_key a o ≡ word_key b p
word_same a b (Some at) (Some by) e = ap (λ place. word_key a (Some place)) (place_is at by e)
word_same a b None None e = ap (λ name. word_key name None) ((bytes_eq-Decides a b).0 e)
word_same a b (Some at) None e = absurd (true≢false (sym e))
word_same a b None (Some by) e = absurd (true≢false (sym e))

access_one : (a b : Access) → access_key a ≡ access_key b → same_access a b ≡ true
access_one kinds.Read kinds.Read e = refl
access_one kinds.Write kinds.Write e = refl
access_one kinds.Read kinds.Write e = absurd (omega (arith, e))
access_one kinds.Write kinds.Read e = absurd (omega (arith, e))

access_same : (a b : Access) → same_access a b ≡ true → access_key a ≡ access_key b
access_same kinds.Read kinds.Read e = refl
access_same kinds.Write kinds.Write e = refl
access_same kinds.Read kinds.Write e = absurd (true≢false (sym e))
access_same kinds.Write kinds.Read e = absurd (true≢false (sym e))

-- a reference doesn't begin as a name does
sign_there : (a : Access) → 0 ≡ access_key a → ⊥
sign_there kinds.Read e = omega (arith, e)
sign_there kinds.Write e = omega (arith, e)

-- two parts of which the second is in turn followed by something
apart : (a c xs b d ys : Bytes) → (a ++ c) ++ xs ≡ (b ++ d) ++ ys → a ++ (c ++ xs) ≡ b ++ (d ++ ys)
apart a c xs b d ys e = sym (append_assoc a c xs) ∙ e ∙ append_assoc b d ys

-- ---- written types

module _ (sight : Sight) (scope other : List Parameter) where
  mutual
    -- types with one key are the same word for word
    wording_one : (t u : WrittenType) (xs ys : Bytes) → wording_key scope sight.interface sight.rows t ++ xs
        ≡ wording_key other sight.body sight.rows u ++ ys
        → (same_wording sight scope other t u ≡ true) × (xs ≡ ys)
    wording_one (named a args) (named b others) xs ys e =
        let word = word_one a.name b.name (declaration_meant scope sight.interface sight.rows a.name)
        (declaration_meant other sight.body sight.rows b.name)
        (wordings_key scope sight.interface sight.rows args ++ xs)
        (wordings_key other sight.body sight.rows others ++ ys)
        (apart (meant_key scope sight.interface sight.rows a.name)
        (wordings_key scope sight.interface sight.rows args) xs
        (meant_key other sight.body sight.rows b.name) (wordings_key other sight.body sight.rows others)
        ys (ap rest e)) in
        let inner = wordings_one args others xs ys word.1 in (
          and_from (same_word sight scope other a.name b.name) (same_wordings sight scope other args others)
              word.0 inner.0,
          inner.1,
        )
    wording_one (reference at kind t r) (reference by its u s) xs ys e =
        let word = word_one r.name s.name (declaration_meant scope sight.interface sight.rows r.name)
        (declaration_meant other sight.body sight.rows s.name)
        (wording_key scope sight.interface sight.rows t ++ xs)
        (wording_key other sight.body sight.rows u ++ ys)
        (apart (meant_key scope sight.interface sight.rows r.name)
        (wording_key scope sight.interface sight.rows t) xs (meant_key other sight.body sight.rows s.name)
        (wording_key other sight.body sight.rows u) ys (ap rest e)) in
        let inner = wording_one t u xs ys word.1 in
        let sign = and_from (same_access kind its) (same_word sight scope other r.name s.name)
        (access_one kind its (ap first e)) word.0 in (
          and_from (same_sign sight scope other kind r.name its s.name)
              (same_wording sight scope other t u) sign inner.0,
          inner.1,
        )
    wording_one (named a args) (reference by its u s) xs ys e = absurd (sign_there its (ap first e))
    wording_one (reference at kind t r) (named b others) xs ys e = absurd (sign_there kind (sym (ap first e)))

    wordings_one : (ts us : WrittenTypes) (xs ys : Bytes)
        → wordings_key scope sight.interface sight.rows ts ++ xs ≡ wordings_key other sight.body sight.rows us
        ++ ys
        → (same_wordings sight scope other ts us ≡ true) × (xs ≡ ys)
    wordings_one no_types no_types xs ys e = (refl, ap rest e)
    wordings_one (types t ts) (types u us) xs ys e =
        let one = wording_one t u (wordings_key scope sight.interface sight.rows ts ++ xs)
        (wordings_key other sight.body sight.rows us ++ ys)
        (apart (wording_key scope sight.interface sight.rows t)
        (wordings_key scope sight.interface sight.rows ts) xs (wording_key other sight.body sight.rows u)
        (wordings_key other sight.body sight.rows us) ys (ap rest e)) in
        let more = wordings_one ts us xs ys one.1 in (
          and_from (same_wording sight scope other t u) (same_wordings sight scope other ts us) one.0 more.0,
          more.1,
        )
    wordings_one no_types (types u us) xs ys e = let clash : 0 ≡ 1 = ap first e in
        absurd (omega (arith, clash))
    wordings_one (types t ts) no_types xs ys e = let clash : 1 ≡ 0 = ap first e in
        absurd (omega (arith, clash))

  mutual
    -- types that are the same word for word have one key
    wording_alike : (t u : WrittenType) → same_wording sight scope other t u ≡ true
        → wording_key scope sight.interface sight.rows t ≡ wording_key other sight.body sight.rows u
    wording_alike (named a args) (named b others) e =
        let parts = and_parts (same_word sight scope other a.name b.name)
        (same_wordings sight scope other args others) e in
        ap (λ w. 0 ∷ w ++ wordings_key scope sight.interface sight.rows args)
        (word_same a.name b.name _ _ parts.0)
        ∙ ap (λ k. 0 ∷ meant_key other sight.body sight.rows b.name ++ k) (wordings_alike args others parts.1)
    wording_alike (reference at kind t r) (reference by its u s) e =
        let parts = and_parts (same_sign sight scope other kind r.name its s.name)
        (same_wording sight scope other t u) e in
        let sign = and_parts (same_access kind its) (same_word sight scope other r.name s.name) parts.0 in
        ap (λ n. n ∷ meant_key scope sight.interface sight.rows r.name
        ++ wording_key scope sight.interface sight.rows t) (access_same kind its sign.0)
        ∙ ap (λ w. access_key its ∷ w ++ wording_key scope sight.interface sight.rows t)
        (word_same r.name s.name _ _ sign.1)
        ∙ ap (λ k. access_key its ∷ meant_key other sight.body sight.rows s.name ++ k)
        (wording_alike t u parts.1)
    wording_alike (named a args) (reference by its u s) e = absurd (true≢false (sym e))
    wording_alike (reference at kind t r) (named b others) e = absurd (true≢false (sym e))

    wordings_alike : (ts us : WrittenTypes) → same_wordings sight scope other ts us ≡ true
        → wordings_key scope sight.interface sight.rows ts ≡ wordings_key other sight.body sight.rows us
    wordings_alike no_types no_types e = refl
    wordings_alike (types t ts) (types u us) e =
        let parts = and_parts (same_wording sight scope other t u)
        (same_wordings sight scope other ts us) e in
        ap (λ k. 1 ∷ k ++ wordings_key scope sight.interface sight.rows ts) (wording_alike t u parts.0)
        ∙ ap (λ k. 1 ∷ wording_key other sight.body sight.rows u ++ k) (wordings_alike ts us parts.1)
    wordings_alike no_types (types u us) e = absurd (true≢false (sym e))
    wordings_alike (types t ts) no_types e = absurd (true≢false (sym e))

-- ---- instances

-- classes have one key exactly where they are one
class_decides : (sight : Sight) (name its : Placed Bytes)
    → bytes_eq (class_key sight.interface name) (class_key sight.body its) ≡ same_class sight name its
class_decides sight name its =
    let one = class_key sight.interface name in
    let two = class_key sight.body its in
    same_truth (bytes_eq one two) (same_class sight name its)
    (λ e. (word_one name.name its.name (tables.find name.name sight.interface)
    (tables.find its.name sight.body) [] [] (ap (λ k. k ++ []) ((bytes_eq-Decides one two).0 e))).0)
    (λ e. (bytes_eq-Decides one two).1 (word_same name.name its.name (tables.find name.name sight.interface)
    (tables.find its.name sight.body) e))

-- instances have one key exactly where their classes are one and their types are the same word for word
instance_decides : (sight : Sight) (scope other : List Parameter) (name its : Placed Bytes)
    (t u : WrittenType)
    → bytes_eq (instance_key scope sight.interface sight.rows name t)
    (instance_key other sight.body sight.rows its u) ≡ same_class sight name its
    && same_wording sight scope other t u
instance_decides sight scope other name its t u =
    let class = class_key sight.interface name in
    let words = wording_key scope sight.interface sight.rows t in
    let its_class = class_key sight.body its in
    let its_words = wording_key other sight.body sight.rows u in
    same_truth (bytes_eq (class ++ words) (its_class ++ its_words))
    (same_class sight name its && same_wording sight scope other t u)
    (λ e.
    let word = word_one name.name its.name (tables.find name.name sight.interface)
    (tables.find its.name sight.body) words its_words
    ((bytes_eq-Decides (class ++ words) (its_class ++ its_words)).0 e) in
    let inner = wording_one sight scope other t u [] [] (ap (λ k. k ++ []) word.1) in
    and_from (same_class sight name its) (same_wording sight scope other t u) word.0 inner.0)
    (λ e.
    let parts = and_parts (same_class sight name its) (same_wording sight scope other t u) e in
    (bytes_eq-Decides (class ++ words) (its_class ++ its_words)).1
    (ap (λ k. k ++ words) (word_same name.name its.name (tables.find name.name sight.interface)
    (tables.find its.name sight.body) parts.0)
    ∙ ap (λ k. its_class ++ k) (wording_alike sight scope other t u parts.1)))

-- of a type that means something, another is the same word for word alone
words_alone : (c w : Bool) (o p : Option Meaning) → is_none o ≡ false → c && w ≡ c && (w || neither o p)
words_alone false w o p some = refl
words_alone true true o p some = refl
words_alone true false None p some = absurd (true≢false some)
words_alone true false (Some t) None some = refl
words_alone true false (Some t) (Some u) some = refl

-- of one that means nothing, another is the same word for word, or means nothing too
words_or_nothing : (c w : Bool) (o p : Option Meaning) (one two : Bytes)
    → is_none o ≡ true → bytes_eq one two ≡ c → ((c && w) || is_name one (nothing_key p two))
    ≡ (c && (w || neither o p))
words_or_nothing true true o p one two none e = refl
words_or_nothing true false None None one two none e = e
words_or_nothing true false None (Some u) one two none e = refl
words_or_nothing true false (Some t) p one two none e = absurd (true≢false (sym none))
words_or_nothing false w o None one two none e = e
words_or_nothing false w o (Some u) one two none e = refl

module _ (sight : Sight) (scope : List Parameter) (name : Placed Bytes) (t : WrittenType) where
  -- what defines an instance for a type that means something has the key of its class and type
  pub meant_defined : is_none (meant [] scope sight.interface sight.rows t) ≡ false
      → (d : PlainDeclaration) → has_key (key_defined Worded sight)
      (instance_key scope sight.interface sight.rows name t) d ≡ instance_defined sight scope name t d
  meant_defined some (instance_body at generics its u methods) =
      instance_decides sight scope (scope_of generics) name its t u
      ∙ words_alone (same_class sight name its) (same_wording sight scope (scope_of generics) t u)
      (meant [] scope sight.interface sight.rows t) (meant [] (scope_of generics) sight.body sight.rows u)
      some
  meant_defined some d = refl

  -- what defines one for a type that means nothing has this key, or is of its class and means nothing
  pub nothing_defined : is_none (meant [] scope sight.interface sight.rows t) ≡ true
      → (d : PlainDeclaration)
      → (has_key (key_defined Worded sight) (instance_key scope sight.interface sight.rows name t) d
      || has_key (key_defined Meaningless sight) (class_key sight.interface name) d)
      ≡ instance_defined sight scope name t d
  nothing_defined none (instance_body at generics its u methods) =
      let other = scope_of generics in
      let nothing = is_name (class_key sight.interface name)
      (nothing_key (meant [] other sight.body sight.rows u) (class_key sight.body its)) in
      ap (λ b. b || nothing) (instance_decides sight scope other name its t u)
      ∙ words_or_nothing (same_class sight name its) (same_wording sight scope other t u)
      (meant [] scope sight.interface sight.rows t) (meant [] other sight.body sight.rows u)
      (class_key sight.interface name) (class_key sight.body its) none (class_decides sight name its)
  nothing_defined none d = refl
