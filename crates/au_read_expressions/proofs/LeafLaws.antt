-- The rows of atoms that have no expression in them.
use Rattle.std.proofs.Common.{◌≡◌, ℕ, suc, Bool, true, false, not, ◌&&◌, List, [], ◌∷◌, ◌++◌, Option, refl}
use Rattle.std.proofs.Common.{ap, arith, inl, inr}
use Rattle.std.specs.List.{list_all}
use Rattle.std.proofs.lemmas.Bool.{and_parts, and_from}
use Rattle.std.proofs.lemmas.List.Folds.{flat_map-map}
use Rattle.au_base.specs.declared.limits.Limit.{Limit}
use Rattle.au_base.specs.declared.tokens.Keyword.TheVariants.{KwTrue, KwFalse, KwNil}
use Rattle.au_base.specs.declared.tokens.Sign.TheVariants.{Arrow, WriteBorrow, Reborrow, LeftParenthesis}
use Rattle.au_base.specs.declared.tokens.Sign.TheVariants.{RightParenthesis, Dot, ReadBorrow, Minus}
use Rattle.au_base.specs.declared.tokens.What.{What}
use Rattle.au_base.specs.declared.tokens.What.TheVariants.{Word, Sign}
use Rattle.au_base.proofs.ListLemmas.{all_good}
use Rattle.au_syntax.specs.declared.expressions.BorrowMode.TheVariants as mode
use Rattle.au_syntax.specs.Forms.{some}
use Rattle.au_syntax.specs.Names.{Placed}
use Rattle.au_syntax.specs.Plain.{Bytes}
use Rattle.au_syntax.specs.Words.{begun, mark, name_words}
use Rattle.au_read_expressions.specs.Bounds.{Bounds}
use Rattle.au_read_expressions.specs.Reading.{is_front, name_at, number_at, text_at, exactly, behind_tokens}
use Rattle.au_read_expressions.specs.Reading.{closed, pair, dotted_at, fields_at}
use Rattle.au_read_expressions.specs.Spelling.{fixed}
use Rattle.au_read_expressions.proofs.Forms.{Form, Reads, anything, light, behind_form, behind_reads}
use Rattle.au_read_expressions.proofs.Forms.{closed_form, closed_reads, pair_form, pair_after, pair_behind}
use Rattle.au_read_expressions.proofs.ListForms.{OnePasses, repeated_form, separated_form}
use Rattle.au_read_expressions.proofs.Limits.{TreeFits}
use Rattle.au_read_expressions.proofs.Single.{exactly_reads, name_form, name_reads, number_form, number_reads}
use Rattle.au_read_expressions.proofs.Single.{text_form, text_reads, dotted_reads, fields_reads}
use Rattle.au_read_expressions.specs.ExpressionReading.{number_of, negative_of, text_of, truth_of, nil_of}
use Rattle.au_read_expressions.specs.ExpressionReading.{path_of, arrow_of, borrow_of, borrow_part_of}
use Rattle.au_read_expressions.specs.ExpressionReading.{arrow_parts}
use Rattle.au_read_expressions.proofs.ExpressionForm.{atom_form}
use Rattle.au_read_expressions.proofs.RowLaws.{Row, row, none_passes}

-- behind names no dot stands
abbrev pub ends_names : Option What → Bool
ends_names what = not (is_front (Sign Dot) what) && true

-- a name with fields
abbrev pub path_form : Form (Placed Bytes × List (Placed Bytes))
path_form = pair_form name_form (repeated_form (behind_form name_form (Sign Dot ∷ [])))

pub path_reads : Reads path_form ends_names (pair name_at fields_at)
path_reads = pair_after name_form (repeated_form (behind_form name_form (Sign Dot ∷ []))) anything ends_names
    name_at name_reads fields_at fields_reads (λ what. refl)

-- a part behind a reference
abbrev pub arrow_form : Form (Placed Bytes × List (Placed Bytes))
arrow_form = pair_form name_form (behind_form (separated_form name_form (fixed (Sign Dot ∷ []))) (Sign Arrow ∷ []))

pub arrow_reads : Reads arrow_form ends_names arrow_parts
arrow_reads = pair_behind name_form (separated_form name_form (fixed (Sign Dot ∷ []))) anything ends_names
    name_at name_reads dotted_at dotted_reads (Sign Arrow) [] refl

pub no_name_passes : (xs : List (Placed Bytes)) (l : Limit) → OnePasses name_form xs l → ⊥
no_name_passes = none_passes name_form (λ x l p. p)

some_names : (xs : List (Placed Bytes)) → (some xs && list_all (λ (x : Placed Bytes). true) xs) ≡ true → some xs ≡ true
some_names xs g = (and_parts (some xs) (list_all (λ (x : Placed Bytes). true) xs) g).0

names_some : (xs : List (Placed Bytes)) → some xs ≡ true → (some xs && list_all (λ (x : Placed Bytes). true) xs) ≡ true
names_some xs g = and_from (some xs) (list_all (λ (x : Placed Bytes). true) xs) g (all_good xs)

module _ (b : Bounds) (n : ℕ) where
  leaf_fits : TreeFits b (suc n) 1 []
  leaf_fits = (omega arith, tt)

  pub number_row : Row (atom_form b (suc n)) anything number_of number_at
  number_row = row number_form (atom_form b (suc n)) anything number_at number_reads number_of (record {
    words = λ at x. refl;
    some = λ x. omega arith;
    good_to = λ at x g. refl;
    good_from = λ at x g. refl;
    fits = λ at x f. leaf_fits;
    passes = λ at x l p. absurd p;
  })

  pub negative_row : Row (atom_form b (suc n)) anything negative_of (behind_tokens (Sign Minus ∷ []) number_at)
  negative_row = row (behind_form number_form (Sign Minus ∷ [])) (atom_form b (suc n)) anything
      (behind_tokens (Sign Minus ∷ []) number_at)
      (behind_reads number_form anything number_at number_reads (Sign Minus ∷ [])) negative_of (record {
        words = λ at x. refl;
        some = λ x. omega arith;
        good_to = λ at x g. refl;
        good_from = λ at x g. refl;
        fits = λ at x f. leaf_fits;
        passes = λ at x l p. absurd p;
      })

  pub text_row : Row (atom_form b (suc n)) anything text_of text_at
  text_row = row text_form (atom_form b (suc n)) anything text_at text_reads text_of (record {
    words = λ at x. refl;
    some = λ x. omega arith;
    good_to = λ at x g. refl;
    good_from = λ at x g. refl;
    fits = λ at x f. leaf_fits;
    passes = λ at x l p. absurd p;
  })

  pub true_row : Row (atom_form b (suc n)) anything (truth_of true) (exactly (Word KwTrue ∷ []))
  true_row = row (light (λ (x : Unit {0}). fixed (Word KwTrue ∷ []))) (atom_form b (suc n)) anything
      (exactly (Word KwTrue ∷ [])) (exactly_reads (Word KwTrue ∷ [])) (truth_of true) (record {
        words = λ at x. refl;
        some = λ x. omega arith;
        good_to = λ at x g. refl;
        good_from = λ at x g. refl;
        fits = λ at x f. leaf_fits;
        passes = λ at x l p. absurd p;
      })

  pub false_row : Row (atom_form b (suc n)) anything (truth_of false) (exactly (Word KwFalse ∷ []))
  false_row = row (light (λ (x : Unit {0}). fixed (Word KwFalse ∷ []))) (atom_form b (suc n)) anything
      (exactly (Word KwFalse ∷ [])) (exactly_reads (Word KwFalse ∷ [])) (truth_of false) (record {
        words = λ at x. refl;
        some = λ x. omega arith;
        good_to = λ at x g. refl;
        good_from = λ at x g. refl;
        fits = λ at x f. leaf_fits;
        passes = λ at x l p. absurd p;
      })

  pub nil_row : Row (atom_form b (suc n)) anything nil_of (exactly (Word KwNil ∷ []))
  nil_row = row (light (λ (x : Unit {0}). fixed (Word KwNil ∷ []))) (atom_form b (suc n)) anything
      (exactly (Word KwNil ∷ [])) (exactly_reads (Word KwNil ∷ [])) nil_of (record {
        words = λ at x. refl;
        some = λ x. omega arith;
        good_to = λ at x g. refl;
        good_from = λ at x g. refl;
        fits = λ at x f. leaf_fits;
        passes = λ at x l p. absurd p;
      })

  pub read_borrow_row : Row (atom_form b (suc n)) anything (borrow_of mode.Read)
      (behind_tokens (Sign ReadBorrow ∷ []) name_at)
  read_borrow_row = row (behind_form name_form (Sign ReadBorrow ∷ [])) (atom_form b (suc n)) anything
      (behind_tokens (Sign ReadBorrow ∷ []) name_at)
      (behind_reads name_form anything name_at name_reads (Sign ReadBorrow ∷ [])) (borrow_of mode.Read) (record {
        words = λ at x. refl;
        some = λ x. omega arith;
        good_to = λ at x g. refl;
        good_from = λ at x g. refl;
        fits = λ at x f. leaf_fits;
        passes = λ at x l p. absurd p;
      })

  pub write_borrow_row : Row (atom_form b (suc n)) anything (borrow_of mode.Write)
      (behind_tokens (Sign WriteBorrow ∷ []) name_at)
  write_borrow_row = row (behind_form name_form (Sign WriteBorrow ∷ [])) (atom_form b (suc n)) anything
      (behind_tokens (Sign WriteBorrow ∷ []) name_at)
      (behind_reads name_form anything name_at name_reads (Sign WriteBorrow ∷ [])) (borrow_of mode.Write) (record {
        words = λ at x. refl;
        some = λ x. omega arith;
        good_to = λ at x g. refl;
        good_from = λ at x g. refl;
        fits = λ at x f. leaf_fits;
        passes = λ at x l p. absurd p;
      })

  pub reborrow_row : Row (atom_form b (suc n)) anything (borrow_of mode.Reborrow)
      (behind_tokens (Sign Reborrow ∷ []) name_at)
  reborrow_row = row (behind_form name_form (Sign Reborrow ∷ [])) (atom_form b (suc n)) anything
      (behind_tokens (Sign Reborrow ∷ []) name_at)
      (behind_reads name_form anything name_at name_reads (Sign Reborrow ∷ [])) (borrow_of mode.Reborrow) (record {
        words = λ at x. refl;
        some = λ x. omega arith;
        good_to = λ at x g. refl;
        good_from = λ at x g. refl;
        fits = λ at x f. leaf_fits;
        passes = λ at x l p. absurd p;
      })

  pub path_row : Row (atom_form b (suc n)) ends_names path_of (pair name_at fields_at)
  path_row = row path_form (atom_form b (suc n)) ends_names (pair name_at fields_at) path_reads path_of (record {
    words = λ at x. ap (λ ws. begun at (name_words x.0 ++ ws)) (flat_map-map (λ one. mark Dot ++ one) name_words x.1);
    some = λ x. omega arith;
    good_to = λ at x g. refl;
    good_from = λ at x g. all_good x.1;
    fits = λ at x f. leaf_fits;
    passes = λ at x l p. elim p [
      | inl p0 ↦ absurd p0
      | inr p1 ↦ absurd
          (none_passes (behind_form name_form (Sign Dot ∷ [])) (λ y k q. q) x.1 l p1)
    ];
  })

  pub arrow_row : Row (atom_form b (suc n)) ends_names arrow_of arrow_parts
  arrow_row = row arrow_form (atom_form b (suc n)) ends_names arrow_parts arrow_reads arrow_of (record {
    words = λ at x. refl;
    some = λ x. omega arith;
    good_to = λ at x g. some_names x.1 g;
    good_from = λ at x g. names_some x.1 g;
    fits = λ at x f. leaf_fits;
    passes = λ at x l p. elim p [ inl p0 ↦ absurd p0 | inr p1 ↦ absurd (no_name_passes x.1 l p1) ];
  })

  pub borrow_part_row : Row (atom_form b (suc n)) anything borrow_part_of
      (behind_tokens (Sign ReadBorrow ∷ Sign LeftParenthesis ∷ [])
      (closed (Sign RightParenthesis ∷ []) arrow_parts))
  borrow_part_row = row (behind_form (closed_form arrow_form (Sign RightParenthesis ∷ []))
      (Sign ReadBorrow ∷ Sign LeftParenthesis ∷ [])) (atom_form b (suc n)) anything
      (behind_tokens (Sign ReadBorrow ∷ Sign LeftParenthesis ∷ []) (closed (Sign RightParenthesis ∷ []) arrow_parts))
      (behind_reads (closed_form arrow_form (Sign RightParenthesis ∷ [])) anything
      (closed (Sign RightParenthesis ∷ []) arrow_parts)
      (closed_reads arrow_form ends_names arrow_parts arrow_reads (Sign RightParenthesis) [] refl)
      (Sign ReadBorrow ∷ Sign LeftParenthesis ∷ [])) borrow_part_of (record {
        words = λ at x. refl;
        some = λ x. omega arith;
        good_to = λ at x g. some_names x.1 g;
        good_from = λ at x g. names_some x.1 g;
        fits = λ at x f. leaf_fits;
        passes = λ at x l p. elim p [ inl p0 ↦ absurd p0 | inr p1 ↦ absurd (no_name_passes x.1 l p1) ];
      })
