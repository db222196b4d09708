-- Rows of the grammar: a tree that is built of its place and its parts.
use Rattle.std.proofs.Common.{◌≡◌, Bool, true, List, [], ◌∷◌, Option, Ok, inl, inr}
use Rattle.au_base.specs.declared.limits.Limit.{Limit}
use Rattle.au_base.specs.declared.places.Pos.{Pos}
use Rattle.au_base.specs.declared.tokens.Token.{Token}
use Rattle.au_base.specs.declared.tokens.What.{What}
use Rattle.au_read_expressions.specs.Reading.{Read, front, built}
use Rattle.au_read_expressions.specs.Spelling.{Begins}
use Rattle.au_read_expressions.proofs.Forms.{Form, Sound, Finds, Reads, Builds, built_sound, built_found}
use Rattle.au_read_expressions.proofs.ListForms.{OnePasses}

-- the two laws of a row
pub record Row {A B : Type 0} (other : Form B) (ends : Option What → Bool) (build : Pos → A → B)
    (read : List Token → Read A) : Type 0 where
  pub sound : (ts rest : List Token) (y : B) → built build read ts ≡ Ok (y, rest) → Sound other y ts rest
  pub found : (at : Pos) (x : A) (ts rest : List Token) → Begins (other.words (build at x)) ts rest →
      other.good (build at x) ≡ true → ends (front rest) ≡ true
      → Finds other (build at x) rest (built build read ts)

pub row : {A B : Type 0} (form : Form A) (other : Form B) (ends : Option What → Bool)
    (read : List Token → Read A) (reads : Reads form ends read) (build : Pos → A → B)
    → Builds form other ends read reads build → Row other ends build read
row form other ends read reads build builds = record {
  sound = built_sound form other ends read reads build builds;
  found = built_found form other ends read reads build builds;
}

-- of what passes no limit, no list does
pub none_passes : {A : Type 0} (form : Form A) → ((x : A) (l : Limit) → form.Passes x l → ⊥) →
    (xs : List A) (l : Limit) → OnePasses form xs l → ⊥
none_passes form none [] l p = p
none_passes form none (x ∷ xs) l p = elim p [ inl q ↦ none x l q | inr q ↦ none_passes form none xs l q ]
