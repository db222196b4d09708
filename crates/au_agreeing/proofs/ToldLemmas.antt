-- What is told of births and borrows.
use Rattle.std.proofs.Common.{◌≡◌, ℕ, suc, ◌+◌, Bool, true, false, List, [], ◌∷◌, ◌++◌, length, Option, Some, None}
use Rattle.std.proofs.Common.{refl, sym, ap, subst, ◌∙◌, arith, if◌then◌else◌}
use Rattle.std.proofs.Common.{length-set}
use Rattle.au_effects.specs.Values.{Place, Value}
use Rattle.au_effects.specs.Worlds.{Deed, Held, World, bears, born, closed, closes, consumed, content, elements, ends}
use Rattle.au_effects.specs.Worlds.{nothing, opened, opens, spends, tells, used}
use Rattle.au_borrows.specs.Told.{Open, Told, numbers, with_birth, with_closing, with_closings, with_end, with_opening, with_use}
use Rattle.au_agreeing.specs.Stores.{told_of}
use Rattle.au_agreeing.proofs.ListLemmas.{length_more}

-- what is told, from its parts
abbrev telling : {B : Type 0} → ℕ → ℕ → List Open → List (Deed B) → Told B
telling birth borrow lying events =
    record { next_birth = birth; next_borrow = borrow; lying = lying; events = events }

module _ {T B : Type 0} (w : World T B) (keeps : w.keeps ≡ true) where
  -- a deed is kept
  kept : (d : Deed B) → (if w.keeps then w.deeds ++ d ∷ [] else w.deeds) ≡ w.deeds ++ d ∷ []
  kept d = ap (λ (k : Bool). if k then w.deeds ++ d ∷ [] else w.deeds) keeps

  module _ (lying : List Open) where
    born_told : (of : B) (home : List ℕ) (held : Held T)
        → told_of lying (bears of home held w) ≡ with_birth of home (told_of lying w)
    born_told of home held =
        ap (λ (es : List (Deed B)). telling (length (w.births ++ held ∷ [])) w.borrows lying es)
        (kept (born (length w.births) of home))
        ∙ ap (λ (n : ℕ). telling n w.borrows lying (w.deeds ++ born (length w.births) of home ∷ []))
        (length_more w.births held)

    ended_told : (id : ℕ) → told_of lying (ends id w) ≡ with_end id (told_of lying w)
    ended_told id =
        ap (λ (es : List (Deed B)). telling (length (ends id w).births) w.borrows lying es) (kept (consumed id))
        ∙ ap (λ (n : ℕ). telling n w.borrows lying (w.deeds ++ consumed id ∷ [])) (length-set w.births id nothing)

    spent_told : (id : ℕ) → told_of lying (spends (Some id) w) ≡ with_end id (told_of lying w)
    spent_told id =
        ap (λ (es : List (Deed B)). telling (length w.births) w.borrows lying es) (kept (consumed id))

    pub births_told : ((of : B) (home : List ℕ)
        → told_of lying (bears of home nothing w) ≡ with_birth of home (told_of lying w))
        × ((of : B) (home : List ℕ) (v : Value T)
        → told_of lying (bears of home (content v) w) ≡ with_birth of home (told_of lying w))
        × ((of : B) (home : List ℕ) (vs : List (Value T))
        → told_of lying (bears of home (elements vs) w) ≡ with_birth of home (told_of lying w))
        × ((id : ℕ) → told_of lying (ends id w) ≡ with_end id (told_of lying w))
        × ((id : ℕ) → told_of lying (spends (Some id) w) ≡ with_end id (told_of lying w))
    births_told = (
      λ of home. born_told of home nothing,
      λ of home v. born_told of home (content v),
      λ of home vs. born_told of home (elements vs),
      ended_told,
      spent_told,
    )

  pub opened_told : (lying : List Open) (writes : Bool) (place : Place)
      → told_of (record { number = w.borrows; writes = writes; place = place } ∷ lying) (opens w)
      ≡ with_opening writes place (told_of lying w)
  opened_told lying writes place =
      let one : w.borrows + 1 ≡ suc w.borrows = omega arith in
      let all : List Open = record { number = w.borrows; writes = writes; place = place } ∷ lying in
      ap (λ (es : List (Deed B)). telling (length w.births) (w.borrows + 1) all es) (kept (opened w.borrows))
      ∙ ap (λ (n : ℕ). telling (length w.births) n all (w.deeds ++ opened w.borrows ∷ [])) one

  pub used_told : (lying : List Open) (b : ℕ) → told_of lying (tells (used b) w) ≡ with_use b (told_of lying w)
  used_told lying b = ap (λ (es : List (Deed B)). telling (length w.births) w.borrows lying es) (kept (used b))

  closing_told : (lying : List Open) (b : Open) (left : List Open)
      → told_of left (tells (closed b.number) w) ≡ with_closing b left (told_of lying w)
  closing_told lying b left =
      ap (λ (es : List (Deed B)). telling (length w.births) w.borrows left es) (kept (closed b.number))

pub closed_told : {T B : Type 0} (w : World T B) → w.keeps ≡ true → (newer left : List Open)
    → told_of left (closes (numbers newer) w) ≡ with_closings newer left (told_of (newer ++ left) w)
closed_told w keeps [] left = refl
closed_told w keeps (b ∷ rest) left =
    closed_told (tells (closed b.number) w) keeps rest left
    ∙ ap (with_closings rest left) (closing_told w keeps (b ∷ rest ++ left) b (rest ++ left))
