-- The laws of the readers of the parts of statements.
use Rattle.std.proofs.Common.{◌≡◌, Bool, true, not, ◌&&◌, List, [], ◌∷◌, ◌++◌, Option, Some, None, Ok, refl}
use Rattle.std.proofs.Common.{ap, ◌∙◌, subst, arith, inl, inr, ◌⊎◌, ◌<◌, length}
use Rattle.au_base.specs.declared.limits.Limit.{Limit}
use Rattle.au_base.specs.declared.places.Pos.{Pos}
use Rattle.au_base.specs.declared.tokens.Keyword.TheVariants.{KwAs, KwEnd}
use Rattle.au_base.specs.declared.tokens.Sign.TheVariants.{Colon, WriteBorrow, Reborrow, ReadBorrow}
use Rattle.au_base.specs.declared.tokens.Token.{Token}
use Rattle.au_base.specs.declared.tokens.What.{What}
use Rattle.au_base.specs.declared.tokens.What.TheVariants.{Word, Sign}
use Rattle.au_syntax.specs.declared.expressions.BorrowMode.{BorrowMode}
use Rattle.au_syntax.specs.declared.expressions.BorrowMode.TheVariants as mode
use Rattle.au_syntax.specs.Names.{Placed, Renaming}
use Rattle.au_syntax.specs.Plain.{Bytes}
use Rattle.au_syntax.specs.Types.{WrittenType, Bound}
use Rattle.au_syntax.specs.Words.{name_words, mark, mode_sign, renaming_words, bound_words, end_at}
use Rattle.au_read_expressions.specs.Bounds.{Bounds, TypePasses}
use Rattle.au_read_expressions.specs.Reading.{is_front, value_or_no, name_at, optional, exactly}
use Rattle.au_read_expressions.specs.Reading.{behind_tokens, pair, read_of}
use Rattle.au_read_expressions.specs.Spelling.{Begins, fixed}
use Rattle.au_read_expressions.proofs.Steps.{ok_same}
use Rattle.au_read_expressions.proofs.Forms.{Form, Reads, Builds, anything, light, behind_form, pair_form}
use Rattle.au_read_expressions.proofs.Forms.{pair_after, pair_behind, shaped_reads, built_sound, built_found}
use Rattle.au_read_expressions.proofs.ListForms.{optional_form, optional_reads}
use Rattle.au_read_expressions.proofs.Single.{name_form, name_reads, exactly_reads}
use Rattle.au_read_expressions.proofs.Limits.{TypeFits}
use Rattle.au_read_expressions.specs.TypeReading.{ends_type, type_at}
use Rattle.au_read_statements.specs.StatementReading.{renaming_of, renaming_at, bound_of, bound_at}
use Rattle.au_read_statements.specs.StatementReading.{place_alone, end_place, mode_of, mode_at}
use Rattle.au_read_expressions.proofs.TypeForm.{type_form}

-- a passed limit that a light part can't have passed
pub not_first : {P : Type 0} → ⊥ ⊎ P → P
not_first p = elim p [ inl q ↦ absurd q | inr q ↦ q ]

pub not_second : {P : Type 0} → P ⊎ ⊥ → P
not_second p = elim p [ inl q ↦ q | inr q ↦ absurd q ]

-- ---- a name and the name after its `as`

abbrev pub renaming_form : Form (Renaming Bytes)
renaming_form = light renaming_words

-- it isn't continued by another token than `as`
abbrev pub ends_renaming : Option What → Bool
ends_renaming what = not (is_front (Word KwAs) what) && true

-- a name behind `as`, or nothing
abbrev pub alias_form : Form (Option (Placed Bytes))
alias_form = optional_form name_form anything name_at name_reads (Word KwAs)

alias_line : (name : Placed Bytes) (x : Option (Placed Bytes)) → renaming_words (renaming_of (name, x))
    ≡ name_words name ++ alias_form.words x
alias_line name None = refl
alias_line name (Some alias) = refl

alias_good : (x : Option (Placed Bytes)) → alias_form.good x ≡ true
alias_good None = refl
alias_good (Some alias) = refl

alias_passes : (x : Option (Placed Bytes)) (l : Limit) → alias_form.Passes x l → ⊥
alias_passes None l p = p
alias_passes (Some alias) l p = p

named_alias : Reads (pair_form name_form alias_form) ends_renaming (pair name_at (optional (Word KwAs) name_at))
named_alias =
    pair_after name_form alias_form anything ends_renaming name_at name_reads (optional (Word KwAs) name_at)
    (optional_reads name_form anything name_at name_reads (Word KwAs))
    (λ what. refl)

pub renaming_some : (x : Renaming Bytes) → renaming_form.good x ≡ true → 0 < length (renaming_words x)
renaming_some x good = omega arith

pub renaming_reads : Reads renaming_form ends_renaming renaming_at
renaming_reads =
    shaped_reads (pair_form name_form alias_form) renaming_form ends_renaming
    (pair name_at (optional (Word KwAs) name_at)) named_alias renaming_of
    (record {
      words = λ x. alias_line x.0 x.1;
      good_to = λ x g. refl;
      good_from = λ x g. alias_good x.1;
      fits = λ x h. tt;
      passes = λ x l p. alias_passes x.1 l (not_first p);
    })
    (λ y. (y.name, y.alias))
    (λ y. refl)

-- ---- a field that is bound

module _ (b : Bounds) where
  abbrev pub bound_form : Form (Bound Bytes)
  bound_form = record {
    words = bound_words;
    good = λ x. true;
    Fits = λ x. TypeFits b x.of;
    Passes =
        λ x. TypePasses b x.of;
  }

  bound_line : (name : Placed Bytes) (x : Option (Placed Bytes)) (t : WrittenType)
      → bound_words (bound_of (renaming_of (name, x), t))
      ≡ (pair_form renaming_form (behind_form (type_form b) (Sign Colon ∷ []))).words
      (renaming_of (name, x), t)
  bound_line name None t = refl
  bound_line name (Some alias) t = refl

  pub bound_some : (x : Bound Bytes) → bound_form.good x ≡ true → 0 < length (bound_words x)
  bound_some x good = omega arith

  module _ (types : Reads (type_form b) ends_type (type_at b)) where
    bound_parts : Reads (pair_form renaming_form (behind_form (type_form b) (Sign Colon ∷ []))) ends_type
        (pair renaming_at (behind_tokens (Sign Colon ∷ []) (type_at b)))
    bound_parts = pair_behind renaming_form (type_form b) ends_renaming ends_type renaming_at renaming_reads
        (type_at b) types (Sign Colon) [] refl

    pub bound_reads : Reads bound_form ends_type (bound_at b)
    bound_reads =
        shaped_reads (pair_form renaming_form (behind_form (type_form b) (Sign Colon ∷ []))) bound_form
        ends_type (pair renaming_at (behind_tokens (Sign Colon ∷ []) (type_at b))) bound_parts bound_of
        (record {
          words = λ x. bound_line x.0.name x.0.alias x.1;
          good_to = λ x g. refl;
          good_from = λ x g. refl;
          fits = λ x h. h.1;
          passes = λ x l p. not_first p;
        })
        (λ y. (y.name, y.of))
        (λ y. refl)

-- ---- an `end` that has a place

abbrev pub end_form : Form Pos
end_form = light end_at

end_builds : Builds (light (λ (x : Unit {0}). fixed (Word KwEnd ∷ []))) end_form anything
    (exactly (Word KwEnd ∷ [])) (exactly_reads (Word KwEnd ∷ [])) place_alone
end_builds = record {
  words = λ at x. refl;
  some = λ x. omega arith;
  good_to = λ at x g. refl;
  good_from = λ at x g. refl;
  fits = λ at x h. tt;
  passes = λ at x l p. p;
}

pub end_place_reads : Reads end_form anything end_place
end_place_reads = record {
  sound = built_sound (light (λ (x : Unit {0}). fixed (Word KwEnd ∷ []))) end_form anything
      (exactly (Word KwEnd ∷ [])) (exactly_reads (Word KwEnd ∷ [])) place_alone end_builds;
  found = λ at. built_found (light (λ (x : Unit {0}). fixed (Word KwEnd ∷ []))) end_form anything
      (exactly (Word KwEnd ∷ [])) (exactly_reads (Word KwEnd ∷ [])) place_alone end_builds at tt;
}

-- ---- how a variable is borrowed

abbrev pub mode_form : Form BorrowMode
mode_form = light (λ m. mark (mode_sign m))

mode_done : (t : Token) (ts rest : List Token) (m x : BorrowMode) → Begins (mark (mode_sign m)) (t ∷ ts) ts →
    read_of m ts ≡ read_of x rest → Begins (mark (mode_sign x)) (t ∷ ts) rest
mode_done t ts rest m x h e =
    let same : (m, ts) ≡ (x, rest) = ok_same (m, ts) (x, rest) e in
    subst (λ (p : BorrowMode × List Token). Begins (mark (mode_sign p.0)) (t ∷ ts) p.1) same h

mode_take : (w : What) (t : Token) (ts rest : List Token) (x : BorrowMode) → t.what ≡ w →
    value_or_no (t ∷ ts) (mode_of w) ≡ Ok (x, rest) → Begins (mark (mode_sign x)) (t ∷ ts) rest
mode_take (Sign ReadBorrow) t ts rest x is e = mode_done t ts rest mode.Read x ((is, tt), refl) e
mode_take (Sign WriteBorrow) t ts rest x is e = mode_done t ts rest mode.Write x ((is, tt), refl) e
mode_take (Sign Reborrow) t ts rest x is e = mode_done t ts rest mode.Reborrow x ((is, tt), refl) e
mode_take other t ts rest x is e = absurd cc

mode_sound : (ts rest : List Token) (x : BorrowMode) → mode_at ts ≡ Ok (x, rest) → Begins (mark (mode_sign x)) ts rest
mode_sound [] rest x e = absurd cc
mode_sound (t ∷ ts) rest x e = mode_take t.what t ts rest x refl e

mode_back : (x : BorrowMode) → mode_of (Sign (mode_sign x)) ≡ Some x
mode_back mode.Read = refl
mode_back mode.Write = refl
mode_back mode.Reborrow = refl

mode_found : (x : BorrowMode) (ts rest : List Token) → Begins (mark (mode_sign x)) ts rest → mode_at ts ≡ Ok (x, rest)
mode_found x [] rest h = absurd h
mode_found x (t ∷ ts) rest h =
    ap (λ w. value_or_no (t ∷ ts) (mode_of w)) h.0.0 ∙ ap (value_or_no (t ∷ ts)) (mode_back x) ∙ ap (read_of x) h.1

pub mode_reads : Reads mode_form anything mode_at
mode_reads = record {
  sound = λ ts rest x e. record { spelled = mode_sound ts rest x e; good = refl; fits = tt };
  found = λ x ts rest h good ended. inl (mode_found x ts rest h);
}
