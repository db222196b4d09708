-- What is said of statements and blocks, and the laws of a row of the grammar.
use Rattle.std.proofs.Common.{◌≡◌, ℕ, suc, true, List, [], ◌∷◌, ◌++◌, Ok, refl, sym, subst, append_assoc, max}
use Rattle.std.proofs.Common.{inl, inr, ◌⊎◌}
use Rattle.std.specs.List.{list_all}
use Rattle.au_base.specs.declared.limits.Limit.{Limit}
use Rattle.au_base.specs.declared.places.Pos.{Pos}
use Rattle.au_base.specs.declared.tokens.Token.{Token}
use Rattle.au_syntax.specs.Depths.{statement_depth, block_depth}
use Rattle.au_syntax.specs.Forms.{formed_statement, formed_block}
use Rattle.au_syntax.specs.Plain.{Bytes, PlainExpression, PlainStatement, PlainStatements}
use Rattle.au_syntax.specs.Sizes.{statement_types, block_types, bound_types}
use Rattle.au_syntax.specs.Types.{WrittenType, Bound}
use Rattle.au_syntax.specs.Words.{statement_words, block_words}
use Rattle.au_read_expressions.specs.Bounds.{Bounds, TypePasses, SomeTypePasses, TreePasses}
use Rattle.au_read_expressions.specs.Reading.{Read, built}
use Rattle.au_read_expressions.specs.Spelling.{Begins}
use Rattle.au_read_expressions.proofs.Forms.{Form, Sound, Finds, Reads, Builds, anything, built_sound, built_found}
use Rattle.au_read_expressions.proofs.Limits.{TypeFits, TypesFit, TreeFits, beside_fit, beside_passes}
use Rattle.au_read_expressions.proofs.ListForms.{AllFit, OnePasses}
use Rattle.au_read_expressions.specs.TypeReading.{ends_type, type_at}
use Rattle.au_read_expressions.specs.ExpressionReading.{ends_expression}
use Rattle.au_read_statements.specs.StatementReading.{ends_block}
use Rattle.au_read_expressions.proofs.TypeForm.{type_form}
use Rattle.au_read_expressions.proofs.ExpressionForm.{expression_form, call_form}
use Rattle.au_read_statements.proofs.PartForms.{bound_form}

module _ (b : Bounds) (n : ℕ) where
  abbrev pub statement_form : Form PlainStatement
  statement_form = record {
    words = statement_words;
    good = formed_statement;
    Fits = λ s. TreeFits b n (statement_depth s) (statement_types s);
    Passes = λ s l. TreePasses b n (statement_depth s) (statement_types s) l;
  }

  abbrev pub block_form : Form PlainStatements
  block_form = record {
    words = block_words;
    good = formed_block;
    Fits = λ s. TreeFits b n (block_depth s) (block_types s);
    Passes = λ s l. TreePasses b n (block_depth s) (block_types s) l;
  }

-- the laws of the readers of what stands inside a statement
pub record Inside (b : Bounds) (n : ℕ) (inner calls : List Token → Read PlainExpression)
    (blocks : List Token → Read PlainStatements) : Type 0 where
  pub types : Reads (type_form b) ends_type (type_at b)
  pub expressions : Reads (expression_form b n) ends_expression inner
  pub called : Reads (call_form b n) anything calls
  pub nested : Reads (block_form b n) ends_block blocks

-- the two laws of a row: what it builds of a place and the parts, and its reader
pub record Row {A : Type 0} (b : Bounds) (n : ℕ) (build : Pos → A → PlainStatement)
    (read : List Token → Read PlainStatement) : Type 0 where
  pub sound : (ts rest : List Token) (s : PlainStatement) → read ts ≡ Ok (s, rest) →
      Sound (statement_form b (suc n)) s ts rest
  pub found : (at : Pos) (x : A) (ts rest : List Token) → Begins (statement_words (build at x)) ts rest →
      formed_statement (build at x) ≡ true
      → Finds (statement_form b (suc n)) (build at x) rest (read ts)

-- they follow from those of the parts' reader
pub row_of : {A : Type 0} (b : Bounds) (n : ℕ) (form : Form A) (read : List Token → Read A)
    (reads : Reads form anything read) (build : Pos → A → PlainStatement)
    → Builds form (statement_form b (suc n)) anything read reads build → Row b n build (built build read)
row_of b n form read reads build builds = record {
  sound = built_sound form (statement_form b (suc n)) anything read reads build builds;
  found = λ at x ts rest h good. built_found form (statement_form b (suc n)) anything read reads build builds
      at x ts rest h good refl;
}

-- one of two cases, where the other stays
pub on_first : {P Q R : Type 0} → (P → Q) → P ⊎ R → Q ⊎ R
on_first f p = elim p [ inl q ↦ inl (f q) | inr q ↦ inr q ]

pub on_second : {P Q R : Type 0} → (P → Q) → R ⊎ P → R ⊎ Q
on_second f p = elim p [ inl q ↦ inl q | inr q ↦ inr (f q) ]

-- ---- trees within the limits, and trees that pass one

module _ (b : Bounds) where
  -- a type that stands before the rest
  module _ (n d : ℕ) where
    pub type_fits_before : (t : WrittenType) (ts : List WrittenType) → TypeFits b t → TreeFits b n d ts →
        TreeFits b n d (t ∷ ts)
    type_fits_before t ts h k = (k.0, (h, k.1))

    pub type_passes_before : (t : WrittenType) (ts : List WrittenType) (l : Limit) → TypePasses b t l
        ⊎ TreePasses b n d ts l → TreePasses b n d (t ∷ ts) l
    type_passes_before t ts l p =
        elim p [
          | inl q ↦ inr (inl q)
          | inr q ↦ elim q [ inl r ↦ inl r | inr r ↦ inr (inr r) ]
        ]

  -- three parts that stand side by side
  module _ (n d e f : ℕ) (ts us vs : List WrittenType) where
    pub three_fit : TreeFits b n d ts → TreeFits b n e us → TreeFits b n f vs →
        TreeFits b n (max d (max e f)) (ts ++ us ++ vs)
    three_fit h k m = subst (TreeFits b n (max d (max e f))) (sym (append_assoc ts us vs))
        (beside_fit b n d (max e f) ts (us ++ vs) h (beside_fit b n e f us vs k m))

    pub three_pass : (l : Limit) → TreePasses b n d ts l ⊎ (TreePasses b n e us l ⊎ TreePasses b n f vs l) →
        TreePasses b n (max d (max e f)) (ts ++ us ++ vs) l
    three_pass l p =
        subst (λ ws. TreePasses b n (max d (max e f)) ws l) (sym (append_assoc ts us vs))
        (beside_passes b n d (max e f) ts (us ++ vs) l (on_second (beside_passes b n e f us vs l) p))

  -- the types of bound names
  pub bounds_fit : (xs : List (Bound Bytes)) → AllFit (bound_form b) xs → TypesFit b (bound_types xs)
  bounds_fit [] h = tt
  bounds_fit (x ∷ xs) h = (h.0, bounds_fit xs h.1)

  pub bounds_pass : (xs : List (Bound Bytes)) (l : Limit) → OnePasses (bound_form b) xs l →
      SomeTypePasses b (bound_types xs) l
  bounds_pass [] l p = absurd p
  bounds_pass (x ∷ xs) l p = elim p [ inl q ↦ inl q | inr q ↦ inr (bounds_pass xs l q) ]

-- a list of what always has its form
pub all_good : {A : Type 0} (xs : List A) → list_all (λ x. true) xs ≡ true
all_good [] = refl
all_good (x ∷ xs) = all_good xs
