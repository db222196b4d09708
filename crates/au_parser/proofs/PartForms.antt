-- The laws of the readers of parts of declarations that hold no types.
use Rattle.std.proofs.Common.{◌≡◌, ◌<◌, Bool, true, false, not, ◌&&◌, List, [], ◌∷◌, length, map, Option}
use Rattle.std.proofs.Common.{Some, None, Ok, refl, sym, ap, ◌∙◌, subst, arith, inl, inr}
use Rattle.std.specs.List.{flat_map, list_all}
use Rattle.std.proofs.lemmas.Bool.{and_from, not-true, cond-true, cond-false}
use Rattle.au_base.specs.declared.limits.Limit.{Limit}
use Rattle.au_base.specs.declared.places.Pos.{Pos}
use Rattle.au_base.specs.declared.tokens.Keyword.TheVariants.{KwAs, KwEnd, KwGeneric, KwFree, KwLinear}
use Rattle.au_base.specs.declared.tokens.Keyword.TheVariants.{KwAnyUniverse, KwRegion}
use Rattle.au_base.specs.declared.tokens.Sign.{Sign as SignOf}
use Rattle.au_base.specs.declared.tokens.Sign.TheVariants.{LeftParenthesis, RightParenthesis, LeftBracket}
use Rattle.au_base.specs.declared.tokens.Sign.TheVariants.{RightBracket, Comma, Colon}
use Rattle.au_base.specs.declared.tokens.Token.{Token}
use Rattle.au_base.specs.declared.tokens.What.{What}
use Rattle.au_base.specs.declared.tokens.What.TheVariants.{Word, Sign}
use Rattle.au_base.proofs.BoolLemmas.{cond_cases, and_true}
use Rattle.au_base.proofs.ListLemmas.{all_good}
use Rattle.au_syntax.specs.declared.declarations.Universe.{Universe}
use Rattle.au_syntax.specs.declared.declarations.Universe.TheVariants as universe
use Rattle.au_syntax.specs.Modules.{InUniverse, Constrained}
use Rattle.au_syntax.specs.Names.{Placed, Renaming}
use Rattle.au_syntax.specs.Plain.{Bytes}
use Rattle.au_syntax.specs.Types.{WrittenType}
use Rattle.au_syntax.specs.Depths.{greatest}
use Rattle.au_syntax.specs.Forms.{some}
use Rattle.au_syntax.specs.Words as words
use Rattle.au_syntax.specs.Words.{Words, word, name_words, renaming_words, end_at, universe_word}
use Rattle.au_syntax.specs.Words.{in_universe_words, constrained_words, generic_words, type_head_words}
use Rattle.au_read_expressions.specs.Bounds.{Bounds}
use Rattle.au_read_expressions.specs.Reading.{Read, pair, front, is_front, begins_with, same_what}
use Rattle.au_read_expressions.specs.Reading.{value_or_no, read_of, name_at, exactly, optional}
use Rattle.au_read_expressions.specs.Spelling.{Begins, fixed}
use Rattle.au_read_expressions.proofs.Steps.{ok_same, begins_again}
use Rattle.au_read_expressions.proofs.Begins.{front_of}
use Rattle.au_read_expressions.proofs.Forms.{Form, Sound, Finds, Reads, light, anything, pair_form}
use Rattle.au_read_expressions.proofs.Forms.{pair_after, sound_of, shaped_reads, Builds, built_sound}
use Rattle.au_read_expressions.proofs.Forms.{built_found}
use Rattle.au_read_expressions.proofs.ListForms.{optional_form, optional_reads}
use Rattle.au_read_expressions.proofs.Single.{exactly_reads, name_form, name_reads}
use Rattle.au_read_statements.specs.StatementReading.{renaming_of, renaming_at, place_alone, end_place}
use Rattle.au_parser.specs.DeclarationReading.{universe_of, universe_at, in_universe_of, in_universe_at}
use Rattle.au_parser.specs.DeclarationReading.{constrained_of, constrained_at, generics_at}
use Rattle.au_parser.proofs.Known.{Said, plain, listed_said, bracketed_said, Same, Known, of_light}
use Rattle.au_parser.proofs.Known.{then_behind, then_closed, both, both_behind, retold, shape, list_of}
use Rattle.au_parser.proofs.Known.{list_in, form_of}

-- ---- a name with its alias, and an `end`

abbrev pub ends_renaming : Option What → Bool
ends_renaming what = not (is_front (Word KwAs) what) && true

abbrev alias_form : Form (Option (Placed Bytes))
alias_form = optional_form name_form anything name_at name_reads (Word KwAs)

abbrev with_alias : Form (Placed Bytes × Option (Placed Bytes))
with_alias = pair_form name_form alias_form

alias_reads : Reads with_alias ends_renaming (pair name_at (optional (Word KwAs) name_at))
alias_reads =
    pair_after name_form alias_form anything ends_renaming name_at name_reads (optional (Word KwAs) name_at)
    (optional_reads name_form anything name_at name_reads (Word KwAs)) (λ what. refl)

renaming_same : (alias : Option (Placed Bytes)) (name : Placed Bytes) →
    renaming_words (renaming_of (name, alias)) ≡ with_alias.words (name, alias)
renaming_same None name = refl
renaming_same (Some alias) name = refl

alias_good : (alias : Option (Placed Bytes)) → alias_form.good alias ≡ true
alias_good None = refl
alias_good (Some alias) = refl

alias_passes : (alias : Option (Placed Bytes)) (l : Limit) → alias_form.Passes alias l → ⊥
alias_passes None l p = p
alias_passes (Some alias) l p = p

abbrev renaming_parts : Renaming Bytes → Placed Bytes × Option (Placed Bytes)
renaming_parts y = (y.name, y.alias)

pub renaming_reads : Reads (light renaming_words) ends_renaming renaming_at
renaming_reads =
    shaped_reads with_alias (light renaming_words) ends_renaming (pair name_at (optional (Word KwAs) name_at))
    alias_reads renaming_of (
    record {
      words = λ x. renaming_same x.1 x.0;
      good_to = λ x g. refl;
      good_from = λ x g. and_from true (alias_form.good x.1) refl (alias_good x.1);
      fits = λ x h. tt;
      passes = λ x l p. elim p [ inl q ↦ q | inr q ↦ alias_passes x.1 l q ];
    }) renaming_parts (λ y. refl)

abbrev end_words : Form (Unit {0})
end_words = light (λ (x : Unit {0}). fixed (Word KwEnd ∷ []))

end_builds : Builds end_words (light end_at) anything (exactly (Word KwEnd ∷ []))
    (exactly_reads (Word KwEnd ∷ [])) place_alone
end_builds = record {
  words = λ at x. refl;
  some = λ x. omega arith;
  good_to = λ at x g. refl;
  good_from = λ at x g. refl;
  fits = λ at x h. tt;
  passes = λ at x l p. p;
}

pub end_reads : Reads (light end_at) anything end_place
end_reads = record {
  sound = built_sound end_words (light end_at) anything (exactly (Word KwEnd ∷ []))
      (exactly_reads (Word KwEnd ∷ [])) place_alone end_builds;
  found = λ at. built_found end_words (light end_at) anything (exactly (Word KwEnd ∷ []))
      (exactly_reads (Word KwEnd ∷ [])) place_alone end_builds at tt;
}

-- ---- lists of what has no depth, no types and always its form

pub none_deep : {A : Type 0} (xs : List A) → greatest (λ (x : A). 0) xs ≡ 0
none_deep [] = refl
none_deep (x ∷ xs) = let r = none_deep xs in omega (arith, r)

abbrev pub no_types : {A : Type 0} → A → List WrittenType
no_types x = []

pub none_typed : {A : Type 0} (xs : List A) → flat_map (λ (x : A). no_types x) xs ≡ []
none_typed [] = refl
none_typed (x ∷ xs) = none_typed xs

pub some_alone : (c d : Bool) → d ≡ true → c ≡ (c && d)
some_alone c true e = sym (and_true c)
some_alone c false e = absurd cc

-- ---- a universe

universe_took : (x y : Universe) (t : Token) (ts rest : List Token) → t.what ≡ Word (universe_word x) →
    read_of x ts ≡ read_of y rest → Begins (word (universe_word y)) (t ∷ ts) rest
universe_took x y t ts rest is e =
    let same : (x, ts) ≡ (y, rest) = ok_same (x, ts) (y, rest) e in
    subst (λ (p : Universe × List Token). Begins (word (universe_word p.0)) (t ∷ ts) p.1) same ((is, tt), refl)

universe_take : (w : What) (t : Token) (ts rest : List Token) (x : Universe) → t.what ≡ w →
    value_or_no (t ∷ ts) (universe_of w) ≡ Ok (x, rest) → Begins (word (universe_word x)) (t ∷ ts) rest
universe_take (Word KwFree) t ts rest x is e = universe_took universe.Free x t ts rest is e
universe_take (Word KwLinear) t ts rest x is e = universe_took universe.Linear x t ts rest is e
universe_take (Word KwAnyUniverse) t ts rest x is e = universe_took universe.AnyType x t ts rest is e
universe_take (Word KwRegion) t ts rest x is e = universe_took universe.Region x t ts rest is e
universe_take other t ts rest x is e = absurd cc

universe_sound : (ts rest : List Token) (x : Universe) → universe_at ts ≡ Ok (x, rest) →
    Begins (word (universe_word x)) ts rest
universe_sound [] rest x e = absurd cc
universe_sound (t ∷ ts) rest x e = universe_take t.what t ts rest x refl e

universe_again : (x : Universe) (ts : List Token) (t : Token) →
    value_or_no (t ∷ ts) (universe_of (Word (universe_word x))) ≡ read_of x ts
universe_again universe.Free ts t = refl
universe_again universe.Linear ts t = refl
universe_again universe.AnyType ts t = refl
universe_again universe.Region ts t = refl

universe_found : (x : Universe) (ts rest : List Token) → Begins (word (universe_word x)) ts rest →
    universe_at ts ≡ Ok (x, rest)
universe_found x [] rest h = absurd h
universe_found x (t ∷ ts) rest h = ap (λ w. value_or_no (t ∷ ts) (universe_of w)) h.0.0
    ∙ universe_again x ts t ∙ ap (read_of x) h.1

pub universe_reads : Reads (light (λ x. word (universe_word x))) anything universe_at
universe_reads = record {
  sound = λ ts rest x e. record { spelled = universe_sound ts rest x e; good = refl; fits = tt };
  found = λ x ts rest h good ended. inl (universe_found x ts rest h);
}

-- ---- type parameters

module _ (b : Bounds) where
  abbrev pub name_known : Known b (Placed Bytes)
  name_known = of_light b name_words anything name_at name_reads

  abbrev pub renaming_known : Known b (Renaming Bytes)
  renaming_known = of_light b renaming_words ends_renaming renaming_at renaming_reads

  abbrev pub end_known : Known b Pos
  end_known = of_light b end_at anything end_place end_reads

  abbrev pub universe_known : Known b Universe
  universe_known = of_light b (λ x. word (universe_word x)) anything universe_at universe_reads

  -- lists of these
  module _ {A : Type 0} (words_of : A → Words) (ends : Option What → Bool) (read : List Token → Read A)
      (reads : Reads (form_of b (plain words_of)) ends read) (some_words : (x : A) → 0 < length (words_of x))
      (stops : ends (Some (Sign Comma)) ≡ true) where
    abbrev plain_known : Known b A
    plain_known = record { said = plain words_of; ends = ends; read = read; reads = reads }

    abbrev pub some_said : Said (List A)
    some_said = record { words = λ xs. words.listed (map words_of xs); good = some; depth = λ xs. 0; types = λ xs. [] }

    pub some_same : Same (listed_said (plain words_of)) some_said (λ xs. xs)
    some_same = record {
      words = λ xs. refl;
      good = λ xs. some_alone (some xs) (list_all (λ (x : A). true) xs) (all_good xs);
      depth = λ xs. sym (none_deep xs);
      types = λ xs. sym (none_typed xs);
    }

    abbrev pub some_known : Known b (List A)
    some_known = retold b (list_of b plain_known (λ x good. some_words x) stops) some_said some_same

    module _ (left right : SignOf)
        (closes : (not (same_what (Sign right) (Sign Comma)) && ends (Some (Sign right))) ≡ true) where
      abbrev pub in_said : Said (List A)
      in_said = plain (λ xs. words.listed_in left right (map words_of xs))

      pub in_same : Same (bracketed_said left right (plain words_of)) in_said (λ xs. xs)
      in_same = record {
        words = λ xs. refl;
        good = λ xs. sym (all_good xs);
        depth = λ xs. sym (none_deep xs);
        types = λ xs. sym (none_typed xs);
      }

      abbrev pub in_known : Known b (List A)
      in_known = retold b (list_in b plain_known (λ x good. some_words x) stops left right closes) in_said in_same

  abbrev in_universe_parts : Known b (Placed Bytes × Universe)
  in_universe_parts = both_behind b name_known (Sign Colon) [] universe_known refl

  in_universe_same : Same in_universe_parts.said (plain in_universe_words) in_universe_of
  in_universe_same = record { words = λ x. refl; good = λ x. refl; depth = λ x. refl; types = λ x. refl }

  pub in_universe_reads : Reads (form_of b (plain in_universe_words)) anything in_universe_at
  in_universe_reads = (shape b in_universe_parts (plain in_universe_words) in_universe_of in_universe_same
      (λ y. (y.name, y.universe)) (λ y. refl)).reads

  abbrev pub in_universe_known : Known b (InUniverse Bytes)
  in_universe_known = record {
    said = plain in_universe_words;
    ends = anything;
    read = in_universe_at;
    reads =
        in_universe_reads;
  }

  abbrev pub parameters_known : Known b (List (InUniverse Bytes))
  parameters_known = in_known in_universe_words anything in_universe_at in_universe_reads (λ x. omega arith)
      refl LeftBracket RightBracket refl

  abbrev pub ends_constrained : Option What → Bool
  ends_constrained what = not (is_front (Sign LeftParenthesis) what)

  abbrev constrained_parts : Known b (InUniverse Bytes × List (Placed Bytes))
  constrained_parts = both b in_universe_known
      (in_known name_words anything name_at name_known.reads (λ x. omega arith) refl LeftParenthesis
      RightParenthesis refl) (λ y ts rest h good ended. refl)

  constrained_same : Same constrained_parts.said (plain constrained_words) constrained_of
  constrained_same = record { words = λ x. refl; good = λ x. refl; depth = λ x. refl; types = λ x. refl }

  pub constrained_reads : Reads (form_of b (plain constrained_words)) ends_constrained constrained_at
  constrained_reads = (shape b constrained_parts (plain constrained_words) constrained_of constrained_same
      (λ y. (y.parameter, y.classes)) (λ y. refl)).reads

  abbrev generic_list : Known b (List (Constrained Bytes))
  generic_list =
      then_behind b (Word KwGeneric ∷ Sign LeftBracket ∷ [])
      (then_closed b (Sign RightBracket) []
      (some_known constrained_words ends_constrained constrained_at constrained_reads (λ x. omega arith)
      refl) refl)

  generics_from : (xs : List (Constrained Bytes)) (ts rest : List Token) →
      Sound (form_of b generic_list.said) xs ts rest → Sound (form_of b (plain generic_words)) xs ts rest
  generics_from [] ts rest s = absurd (let wrong = s.good in cc)
  generics_from (x ∷ xs) ts rest s = record { spelled = s.spelled; good = refl; fits = (omega arith, tt) }

  generics_sound : (ts rest : List Token) (xs : List (Constrained Bytes)) → generics_at ts ≡ Ok (xs, rest) →
      Sound (form_of b (plain generic_words)) xs ts rest
  generics_sound ts rest xs e =
      elim (cond_cases (begins_with (Word KwGeneric) ts) (generic_list.read ts) (read_of [] ts)
      (read_of xs rest) e) [
        | inl w ↦ generics_from xs ts rest (generic_list.reads.sound ts rest xs w.1)
        | inr w ↦ sound_of (form_of b (plain generic_words)) [] xs ts ts rest
            (record { spelled = refl; good = refl; fits = (omega arith, tt) }) w.1
      ]

  abbrev pub ends_generics : Option What → Bool
  ends_generics what = not (is_front (Word KwGeneric) what)

  generics_found : (xs : List (Constrained Bytes)) (ts rest : List Token) →
      Begins (generic_words xs) ts rest → true ≡ true → ends_generics (front rest) ≡ true
      → Finds (form_of b (plain generic_words)) xs rest (generics_at ts)
  generics_found [] ts rest h good ended =
      let none : begins_with (Word KwGeneric) ts ≡ false = ap (begins_with (Word KwGeneric)) h
      ∙ not-true (begins_with (Word KwGeneric) rest) ended in
      inl (cond-false (begins_with (Word KwGeneric) ts) (generic_list.read ts) (read_of [] ts) none
      ∙ ap (λ r. read_of [] r) h)
  generics_found (x ∷ xs) ts rest h good ended =
      let first : begins_with (Word KwGeneric) ts ≡ true =
      begins_again (Word KwGeneric) ts (front_of (generic_words (x ∷ xs)) ts rest (omega arith) h) in
      subst (Finds (form_of b (plain generic_words)) (x ∷ xs) rest)
      (sym (cond-true (begins_with (Word KwGeneric) ts) (generic_list.read ts) (read_of [] ts) first))
      (generic_list.reads.found (x ∷ xs) ts rest h refl refl)

  pub generics_reads : Reads (form_of b (plain generic_words)) ends_generics generics_at
  generics_reads = record { sound = generics_sound; found = generics_found }

  abbrev pub generics_known : Known b (List (Constrained Bytes))
  generics_known = record {
    said = plain generic_words;
    ends = ends_generics;
    read = generics_at;
    reads =
        generics_reads;
  }

  -- ---- the head of a type's declaration

  abbrev pub type_head_known : Known b (Placed Bytes × (List (InUniverse Bytes) × Universe))
  type_head_known =
      both b name_known (both_behind b parameters_known (Sign Colon) [] universe_known refl)
      (λ y ts rest h good ended. refl)
