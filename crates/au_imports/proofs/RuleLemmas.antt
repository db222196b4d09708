-- Nothing clashes exactly where no name means two things that are not to be one.
use Rattle.std.proofs.Common.{
  ◌≡◌,
  ◌≢◌,
  ℕ,
  ◌<◌,
  ◌⊎◌,
  inl,
  inr,
  Bool,
  true,
  false,
  true≢false,
  not,
  ◌&&◌,
  ◌||◌,
  ◌==◌,
  List,
  ◌++◌,
  Option,
  Some,
  None,
  refl,
  ap,
  sym,
  ◌∙◌,
  Contains,
  slice_get,
  arith,
}
use Rattle.std.specs.Option.{option_map}
use Rattle.std.proofs.lemmas.Bool.{
  and_from,
  eqb-false,
  false_from_ne_true,
  ne_eqb,
  not-false,
  not-true,
  not_from_false,
  not_from_true,
  and_parts,
  or_from,
  or_parts,
}
use Rattle.std.proofs.lemmas.Option.{none-some}
use Rattle.au_base.proofs.OptionLemmas.{some_of}
use Rattle.au_syntax.specs.declared.modules.Part.{Part}
use Rattle.au_syntax.specs.declared.modules.Part.TheVariants.{Interface, Body}
use Rattle.au_syntax.specs.Modules.{Importing}
use Rattle.au_syntax.specs.Plain.{Bytes, PlainDeclaration}
use Rattle.au_types.specs.declared.spaces.Space.{Space}
use Rattle.au_types.specs.declared.spaces.Space.TheVariants.{Values, Callables, Types}
use Rattle.au_types.specs.DeclaredNames.{declared_names, names_in}
use Rattle.au_types.specs.Tables.{find, has_name}
use Rattle.au_modules.specs.Programs.{ModuleParts}
use Rattle.au_names.specs.declared.targets.Target.{Target}
use Rattle.au_names.specs.Meanings.{imports_in, offered, part_of}
use Rattle.au_names.specs.Owned.{declarations_in, declarations_of, interface_of, own, target}
use Rattle.au_types.specs.Senses.{built_in}
use Rattle.au_promises.specs.declared.mentions.Mention.TheVariants.{Writes}
use Rattle.au_promises.specs.Mentions.{mentions}
use Rattle.au_imports.specs.Clashing.{
  is_built_in,
  is_offered,
  pervasive_target,
  is_pervasive,
  brought_to,
  is_declared_before,
  is_brought_before,
  declaration_clashes,
}
use Rattle.au_imports.specs.Good.{IsSourced, IsForeign, NamesAreGood}
use Rattle.au_names.proofs.AmongLemmas.{
  Among,
  among,
  contains,
  among-append,
  among-append_left,
  among-append_right,
}
use Rattle.au_imports.proofs.ChoiceLemmas.{found_among, among_has, has_among}
use Rattle.au_imports.proofs.NumberLemmas.{
  among-names_in,
  among-names_in_from,
  among-numbered,
  among-numbered_from,
}
use Rattle.au_imports.proofs.SourceLemmas.{targets_among, targets_from, find-targets, brought_before}
use Rattle.au_imports.proofs.ItemLemmas.{other_from, other_to, IsAlone, alone_from, alone_to, one_brought}
use Rattle.au_imports.proofs.FreeLemmas.{IsFree}

-- ---- what is pervasive

pervasive_is : (space : Space) (o : Option ModuleParts) (name : Bytes)
    → find name (offered space 0 o) ≡ pervasive_target space o name
pervasive_is space None name = refl
pervasive_is space (Some m) name = find-targets 0 (names_in space (interface_of m)) name

pervasive_module : (space : Space) (o : Option ModuleParts) (name : Bytes) (t : Target)
    → find name (offered space 0 o) ≡ Some t → 0 ≡ t.at.«module»
pervasive_module space None name t h = absurd (none-some t h)
pervasive_module space (Some m) name t h =
    ap (λ u. u.at.«module») (targets_among 0 (names_in space (interface_of m))
    (name, t) (found_among name (offered space 0 (Some m)) t h)).2

is_pervasive_from : (space : Space) (o : Option ModuleParts) (name : Bytes) (t : Target)
    → find name (offered space 0 o) ≡ Some t → is_pervasive space o name ≡ true
is_pervasive_from space None name t h = absurd (none-some t h)
is_pervasive_from space (Some m) name t h =
    let found = targets_among 0 (names_in space (interface_of m)) (name, t)
    (found_among name (offered space 0 (Some m)) t h) in
    among_has name (names_in space (interface_of m)) found.0 found.1

is_pervasive_to : (space : Space) (o : Option ModuleParts) (name : Bytes)
    → is_pervasive space o name ≡ true → (t : Target) × (find name (offered space 0 o) ≡ Some t)
is_pervasive_to space None name h = absurd (true≢false (sym h))
is_pervasive_to space (Some m) name h =
    let number = some_of (find name (names_in space (interface_of m))) h in (
      target 0 name number.0,
      find-targets 0 (names_in space (interface_of m)) name
          ∙ ap (option_map (λ k. target 0 name k)) number.1,
    )

-- ---- what a module declares

-- a declaration of one of two files declares the name
abbrev DeclaredBy : Space → Bytes → ModuleParts → Type 0
DeclaredBy space name m =
    (d : PlainDeclaration) × (Among d (declarations_in m.interface) ⊎ Among d (declarations_in m.body))
    × Among name (declared_names space d)

own_declared : (space : Space) (place : ℕ) (m : ModuleParts) (p : Bytes × Target)
    → Among p (own space place m) → DeclaredBy space p.0 m
own_declared space place m p n =
    let all = declarations_in m.interface ++ declarations_in m.body in
    let found = targets_among place (names_in space (declarations_of m)) p n in
    let there = among-names_in space (declarations_of m) (p.0, found.0) found.1 in (
      there.0.1,
      among-append (declarations_in m.interface) (declarations_in m.body) there.0.1
          (among-numbered 0 all there.0 there.1).1,
      there.3,
    )

own_module : (space : Space) (place : ℕ) (m : ModuleParts) (p : Bytes × Target)
    → Among p (own space place m) → place ≡ p.1.at.«module»
own_module space place m p n = ap (λ u. u.at.«module»)
    (targets_among place (names_in space (declarations_of m)) p n).2

own_from : (space : Space) (place : ℕ) (m : ModuleParts) (name : Bytes)
    → DeclaredBy space name m → (t : Target) × Among (name, t) (own space place m) × (place ≡ t.at.«module»)
own_from space place m name (d, one, declared) = (
  target place name number.0,
  targets_from place (names_in space (declarations_of m)) name number.0 pair,
  refl,
)
  where
    all : List PlainDeclaration
    all = declarations_in m.interface ++ declarations_in m.body

    both : Among d (declarations_in m.interface) ⊎ Among d (declarations_in m.body) → Among d all
    both (inl n) = among-append_left (declarations_in m.interface) (declarations_in m.body) d n
    both (inr n) = among-append_right (declarations_in m.interface) (declarations_in m.body) d n

    number : (k : ℕ) × Among (k, d) (declarations_of m)
    number = among-numbered_from 0 all d (both one)

    pair : Among (name, number.0) (names_in space (declarations_of m))
    pair = among-names_in_from space (declarations_of m) (number.0, d) name number.1 declared

offered_declared : (space : Space) (m : ModuleParts) (name : Bytes) → is_offered space m name ≡ true
    → DeclaredBy space name m
offered_declared space m name h =
    let found = has_among name (names_in space (interface_of m)) h in
    let there = among-names_in space (interface_of m) (name, found.0) found.1 in
    (there.0.1, inl (among-numbered 0 (declarations_in m.interface) there.0 there.1).1, there.3)

declared_offered : (space : Space) (m : ModuleParts) (d : PlainDeclaration) (name : Bytes)
    → Among d (declarations_in m.interface) → Among name (declared_names space d)
    → is_offered space m name ≡ true
declared_offered space m d name one declared =
    let number = among-numbered_from 0 (declarations_in m.interface) d one in
    among_has name (names_in space (interface_of m)) number.0
    (among-names_in_from space (interface_of m) (number.0, d) name number.1 declared)

module _ (program : List ModuleParts) (place : ℕ) (m : ModuleParts) where
  -- ---- the parts of a test

  -- a name that is declared means nothing before
  record IsNew (part : Part) (space : Space) (name : Bytes) : Type 0 where
    built : is_built_in space name ≡ false
    common : place ≢ 0 → is_pervasive space (slice_get program 0) name ≡ false
    before : is_brought_before program place m part space name ≡ false

  not_zero : (b : Bool) → (not (place == 0) && b) ≡ false → place ≢ 0 → b ≡ false
  not_zero b h ne = false_from_ne_true b
      (λ e. true≢false
      (sym (and_from (not (place == 0)) b (not_from_false (place == 0) (ne_eqb place 0 ne)) e) ∙ h))

  zero_or : (b : Bool) → (place ≢ 0 → b ≡ false) → (not (place == 0) && b) ≡ false
  zero_or b h =
      false_from_ne_true (not (place == 0) && b)
      (λ e.
      let both = and_parts (not (place == 0)) b e in
      true≢false (sym both.1 ∙ h (eqb-false place 0 (not-true (place == 0) both.0))))

  new_from : (part : Part) (space : Space) (name : Bytes)
      → declaration_clashes program place m part space name ≡ false → IsNew part space name
  new_from part space name h =
      let a = is_built_in space name in
      let b = is_pervasive space (slice_get program 0) name in
      let one = or_parts (a || (not (place == 0) && b)) (is_brought_before program place m part space name)
      h in
      let two = or_parts a (not (place == 0) && b) one.0 in
      record { built = two.0; common = not_zero b two.1; before = one.1 }

  new_to : (part : Part) (space : Space) (name : Bytes) → IsNew part space name
      → declaration_clashes program place m part space name ≡ false
  new_to part space name h =
      let a = is_built_in space name in
      let b = is_pervasive space (slice_get program 0) name in
      or_from (a || (not (place == 0) && b)) (is_brought_before program place m part space name)
      (or_from a (not (place == 0) && b) h.built (zero_or b h.common)) h.before

  -- ---- the rules, where nothing clashes

  module _ (free : (part : Part) → IsFree program place m part) where
    declared_in : (space : Space) (name : Bytes) → DeclaredBy space name m
        → (part : Part) × IsNew part space name
    declared_in space name (d, inl one, declared) =
        (Interface, new_from Interface space name ((free Interface).declared d space name one declared))
    declared_in space name (d, inr one, declared) =
        (Body, new_from Body space name ((free Body).declared d space name one declared))

    -- a name that is declared isn't brought
    own_brought : (part : Part) (space : Space) (name : Bytes) (t : Target)
        → DeclaredBy space name m → Among (name, t) (brought_to program place m part space) → ⊥
    own_brought Interface space name t (d, inl one, declared) n =
        let new = new_from Interface space name ((free Interface).declared d space name one declared) in
        true≢false (sym (among_has name (brought_to program place m Interface space) t n) ∙ new.before)
    own_brought Interface space name t (d, inr one, declared) n =
        let new = new_from Body space name ((free Body).declared d space name one declared) in
        let none = or_parts (has_name name (brought_to program place m Interface space))
        (has_name name (brought_to program place m Body space)) new.before in
        true≢false (sym (among_has name (brought_to program place m Interface space) t n) ∙ none.0)
    own_brought Body space name t (d, inl one, declared) n =
        let alone = alone_from program place m Body space name t ((free Body).imports space (name, t) n) in
        true≢false (sym (declared_offered space m d name one declared) ∙ alone.declared)
    own_brought Body space name t (d, inr one, declared) n =
        let new = new_from Body space name ((free Body).declared d space name one declared) in
        let none = or_parts (has_name name (brought_to program place m Interface space))
        (has_name name (brought_to program place m Body space)) new.before in
        true≢false (sym (among_has name (brought_to program place m Body space) t n) ∙ none.1)

    one_own : (part : Part) (space : Space) (name : Bytes) (meaning : Target)
        → IsForeign program place m part space name meaning → DeclaredBy space name m → ⊥
    one_own part space name meaning (inl c) declared = own_brought part space name meaning declared
        (among (brought_to program place m part space) (name, meaning) c)
    one_own part space name meaning (inr c) declared =
        let new = (declared_in space name declared).1 in
        true≢false (sym (is_pervasive_from space (slice_get program 0) name meaning c.1) ∙ new.common c.0)

    one_import : (part : Part) (space : Space) (name : Bytes) (meaning other : Target)
        → IsForeign program place m part space name meaning
        → Among (name, other) (brought_to program place m part space) → meaning ≡ other
    one_import part space name meaning other (inl c) n =
        one_brought program place m part (free part).imports space name meaning other
        (among (brought_to program place m part space) (name, meaning) c) n
    one_import part space name meaning other (inr c) n =
        let alone = alone_from program place m part space name other
        ((free part).imports space (name, other) n) in
        other_from (pervasive_target space (slice_get program 0) name) other meaning alone.pervasive
        (sym (pervasive_is space (slice_get program 0) name) ∙ c.1)

    one_of : (part : Part) (space : Space) (name : Bytes) (meaning other : Target)
        → IsForeign program place m part space name meaning
        → Among (name, other) (own space place m) ⊎ Among (name, other)
        (brought_to program place m part space) → meaning ≡ other
    one_of part space name meaning other foreign (inl n) =
        absurd (one_own part space name meaning foreign (own_declared space place m (name, other) n))
    one_of part space name meaning other foreign (inr n) = one_import part space name meaning other foreign n

    built_of : (part : Part) (name : Bytes) (meaning : Target)
        → Among (name, meaning) (own Types place m) ⊎ Among (name, meaning)
        (brought_to program place m part Types)
        → has_name name built_in ≡ false
    built_of part name meaning (inl n) =
        (declared_in Types name (own_declared Types place m (name, meaning) n)).1.built
    built_of part name meaning (inr n) =
        (alone_from program place m part Types name meaning
        ((free part).imports Types (name, meaning) n)).built_in

    pub good_of_free : (part : Part) → NamesAreGood program place m part
    good_of_free part = record {
      imports = λ i c. (free part).sources i (among (imports_in (part_of part m)) i c);
      written = λ d name at c w.
          not-false _ ((free part).written d name at (among (declarations_in (part_of part m)) d c)
          (among (mentions d) (Writes name at) w));
      one = λ space name meaning other foreign c.
          one_of part space name meaning other foreign
          (among-append (own space place m) (brought_to program place m part space)
          (name, other) (among (own space place m ++ brought_to program place m part space)
          (name, other) c));
      built_in = λ name meaning c.
          built_of part name meaning
          (among-append (own Types place m) (brought_to program place m part Types)
          (name, meaning) (among (own Types place m ++ brought_to program place m part Types)
          (name, meaning) c));
    }

  -- ---- nothing clashes, where the rules are kept

  module _ (good : (part : Part) → NamesAreGood program place m part) where
    sources_of : (part : Part) (i : Importing Bytes) → Among i (imports_in (part_of part m))
        → IsSourced program place i
    sources_of part i one = (good part).imports i (contains (imports_in (part_of part m)) i one)

    as_own : (part : Part) (space : Space) (name : Bytes) (t : Target) → Among (name, t) (own space place m)
        → Contains (own space place m ++ brought_to program place m part space) (name, t)
    as_own part space name t n =
        contains (own space place m ++ brought_to program place m part space) (name, t)
        (among-append_left (own space place m) (brought_to program place m part space) (name, t) n)

    as_brought : (part : Part) (space : Space) (name : Bytes) (t : Target)
        → Among (name, t) (brought_to program place m part space)
        → Contains (own space place m ++ brought_to program place m part space) (name, t)
    as_brought part space name t n =
        contains (own space place m ++ brought_to program place m part space) (name, t)
        (among-append_right (own space place m) (brought_to program place m part space) (name, t) n)

    before_of : (part : Part) (space : Space) (name : Bytes) (t : Target)
        → Among (name, t) (brought_to program place m part space) → t.at.«module» < place
    before_of part space name t n = brought_before program place m part (sources_of part) space (name, t) n

    -- a name that is declared isn't brought
    own_apart : (part : Part) (space : Space) (name : Bytes) (t : Target) → DeclaredBy space name m
        → Among (name, t) (brought_to program place m part space) → ⊥
    own_apart part space name t declared n =
        let own_one = own_from space place m name declared in
        let same : t ≡ own_one.0 =
        (good part).one space name t own_one.0
        (inl (contains (brought_to program place m part space) (name, t) n))
        (as_own part space name own_one.0 own_one.1) in
        let here : t.at.«module» ≡ own_one.0.at.«module» = ap (λ u. u.at.«module») same in
        let earlier : t.at.«module» < place = before_of part space name t n in
        omega (arith, here, own_one.2, earlier)

    own_unbrought : (part : Part) (space : Space) (name : Bytes) → DeclaredBy space name m
        → has_name name (brought_to program place m part space) ≡ false
    own_unbrought part space name declared =
        false_from_ne_true (has_name name (brought_to program place m part space))
        (λ e. let found = has_among name (brought_to program place m part space) e in
        own_apart part space name found.0 declared found.1)

    built_free : (part : Part) (space : Space) (name : Bytes) (t : Target)
        → Contains (own space place m ++ brought_to program place m part space) (name, t)
        → is_built_in space name ≡ false
    built_free part Values name t c = refl
    built_free part Callables name t c = refl
    built_free part Types name t c = (good part).built_in name t c

    undeclared : (part : Part) (space : Space) (name : Bytes) (t : Target)
        → Among (name, t) (brought_to program place m part space)
        → is_declared_before program place m part space name ≡ false
    undeclared Interface space name t n = refl
    undeclared Body space name t n =
        false_from_ne_true (is_offered space m name)
        (λ e. own_apart Body space name t (offered_declared space m name e) n)

    alone_of : (part : Part) (space : Space) (p : Bytes × Target)
        → Among p (brought_to program place m part space) → IsAlone program place m part space p.0 p.1
    alone_of part space p n =
        let pairs = brought_to program place m part space in
        let earlier : p.1.at.«module» < place = before_of part space p.0 p.1 n in
        let ne : place ≢ 0 = λ e. omega (arith, e, earlier) in
        record {
          built_in = built_free part space p.0 p.1 (as_brought part space p.0 p.1 n);
          pervasive = other_to (pervasive_target space (slice_get program 0) p.0) p.1
              (λ u is. (good part).one space p.0 u p.1 (inr (
                ne,
                pervasive_is space (slice_get program 0) p.0
                    ∙ is,
              )) (as_brought part space p.0 p.1 n));
          brought = other_to (find p.0 pairs) p.1
              (λ u is. (good part).one space p.0 u p.1
              (inl (contains pairs (p.0, u) (found_among p.0 pairs u is)))
              (as_brought part space p.0 p.1 n));
          declared = undeclared part space p.0 p.1 n;
        }

    unbrought : (part : Part) (space : Space) (name : Bytes) → DeclaredBy space name m
        → is_brought_before program place m part space name ≡ false
    unbrought Interface space name declared = own_unbrought Interface space name declared
    unbrought Body space name declared =
        or_from (has_name name (brought_to program place m Interface space))
        (has_name name (brought_to program place m Body space))
        (own_unbrought Interface space name declared) (own_unbrought Body space name declared)

    uncommon : (space : Space) (name : Bytes) → DeclaredBy space name m → place ≢ 0
        → is_pervasive space (slice_get program 0) name ≡ false
    uncommon space name declared ne = false_from_ne_true (is_pervasive space (slice_get program 0) name) no
      where
        no : is_pervasive space (slice_get program 0) name ≡ true → ⊥
        no e =
            let found = is_pervasive_to space (slice_get program 0) name e in
            let own_one = own_from space place m name declared in
            let same : found.0 ≡ own_one.0 = (good Interface).one space name found.0 own_one.0
            (inr (ne, found.1)) (as_own Interface space name own_one.0 own_one.1) in
            let here : found.0.at.«module» ≡ own_one.0.at.«module» = ap (λ u. u.at.«module») same in
            let first : 0 ≡ found.0.at.«module» = pervasive_module space
            (slice_get program 0) name found.0 found.1 in
            let zeroth : place ≡ 0 = omega (arith, here, first, own_one.2) in
            ne zeroth

    new_of : (part : Part) (space : Space) (name : Bytes) → DeclaredBy space name m → IsNew part space name
    new_of part space name declared =
        let own_one = own_from space place m name declared in
        record {
          built = built_free part space name own_one.0 (as_own part space name own_one.0 own_one.1);
          common = uncommon space name declared;
          before = unbrought part space name declared;
        }

    by_part : (part : Part) (d : PlainDeclaration) → Among d (declarations_in (part_of part m))
        → Among d (declarations_in m.interface) ⊎ Among d (declarations_in m.body)
    by_part Interface d n = inl n
    by_part Body d n = inr n

    pub free_of_good : (part : Part) → IsFree program place m part
    free_of_good part = record {
      sources = sources_of part;
      written = λ d name at one two.
          not_from_true _ ((good part).written d name at (contains (declarations_in (part_of part m)) d one)
          (contains (mentions d) (Writes name at) two));
      imports = λ space p n. alone_to program place m part space p.0 p.1 (alone_of part space p n);
      declared = λ d space name one two. new_to part space name
          (new_of part space name (d, by_part part d one, two));
    }
