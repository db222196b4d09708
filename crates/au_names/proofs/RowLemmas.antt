-- Rows come one behind another, each of a later declaration than those before it.
use Rattle.std.proofs.Common.{◌≡◌, ◌≢◌, ℕ, ◌+◌, ◌<◌, ◌≤◌, ◌⊎◌, inl, inr, Bool, true, false, cond, ◌&&◌, ◌==◌}
use Rattle.std.proofs.Common.{List, [], ◌∷◌, ◌++◌, Option, None, Some, refl, sym, ap, ◌∙◌, subst, zero, suc}
use Rattle.std.proofs.Common.{arith}
use Rattle.std.specs.Prelude.{slice_get}
use Rattle.std.proofs.lemmas.Bool.{ne_eqb, and_right}
use Rattle.std.proofs.lemmas.List.{append-nil}
use Rattle.au_types.specs.declared.types.DeclAt.{DeclAt}
use Rattle.au_types.specs.declared.headings.Head.{Head}
use Rattle.au_types.specs.Rows.{same_place, head_of}
use Rattle.au_types.proofs.SameLemmas.{place_self}
use Rattle.au_names.specs.HeadsOf.{row_under}
use Rattle.au_names.specs.Walks.{IsFreeFrom}

-- ---- places

-- the place of a declaration
abbrev pub place_at : ℕ → ℕ → DeclAt
place_at place number = record { «module» = place; decl = number }

-- a declaration from this one on
abbrev IsLater : ℕ → ℕ → DeclAt → Type 0
IsLater place number at = (place < at.«module») ⊎ ((place ≡ at.«module») × (number ≤ at.decl))

-- a later declaration is another
other : (place number : ℕ) (at : DeclAt) → IsLater place (number + 1) at
    → same_place at (place_at place number) ≡ false
other place number at (inl h) =
    let apart : at.«module» ≢ place = omega arith in
    ap (λ b. b && (at.decl == number)) (ne_eqb at.«module» place apart)
other place number at (inr h) =
    let apart : at.decl ≢ number = omega arith in
    and_right (at.«module» == place) (at.decl == number) (ne_eqb at.decl number apart)

earlier : (place number : ℕ) (at : DeclAt) → IsLater place (number + 1) at → IsLater place number at
earlier place number at (inl h) = inl h
earlier place number at (inr h) = inr (h.0, omega arith)

-- ---- what is found

module _ {A : Type 0} where
  step : (b : Bool) (x : A) (p q r : Option A) → cond b (Some x) p ≡ None → (p ≡ None → q ≡ r)
      → cond b (Some x) q ≡ r
  step true x p q r h k = cc
  step false x p q r h k = k h

  keep : (b : Bool) (x : A) (p q : Option A) (y : A) → cond b (Some x) p ≡ Some y → (p ≡ Some y → q ≡ Some y)
      → cond b (Some x) q ≡ Some y
  keep true x p q y e k = e
  keep false x p q y e k = k e

  -- what stands in a list with one more item at its end
  get_push : (xs : List A) (x y : A) (i : ℕ) → slice_get (xs ++ x ∷ []) i ≡ Some y
      → (slice_get xs i ≡ Some y) ⊎ (y ≡ x)
  get_push [] x y zero h = inr (cc)
  get_push [] x y (suc i) h = cc
  get_push (z ∷ zs) x y zero h = inl h
  get_push (z ∷ zs) x y (suc i) h = get_push zs x y i h

-- where no row is of a declaration, those behind decide
behind : (at : DeclAt) (rows more : List (DeclAt × Head)) → head_of rows at ≡ None
    → head_of (rows ++ more) at ≡ head_of more at
behind at [] more h = refl
behind at (r ∷ rs) more h =
    step (same_place at r.0) r.1 (head_of rs at) (head_of (rs ++ more) at) (head_of more at) h
    (behind at rs more)

-- what is found stays found
kept : (at : DeclAt) (rows more : List (DeclAt × Head)) (y : Head) → head_of rows at ≡ Some y
    → head_of (rows ++ more) at ≡ Some y
kept at [] more y h = cc
kept at (r ∷ rs) more y h =
    keep (same_place at r.0) r.1 (head_of rs at) (head_of (rs ++ more) at) y h (kept at rs more y)

-- ---- one more row, if it is there

free_row : (place number : ℕ) (rows : List (DeclAt × Head)) (one : Option Head) → IsFreeFrom place number rows
    → IsFreeFrom place (number + 1) (rows ++ row_under (place_at place number) one)
free_row place number rows None free at later =
    ap (λ r. head_of r at) (append-nil rows) ∙ free at (earlier place number at later)
free_row place number rows (Some y) free at later =
    behind at rows ((place_at place number, y) ∷ []) (free at (earlier place number at later))
    ∙ ap (λ b. cond b (Some y) None) (other place number at later)

-- no row is of a later declaration, once that of this one is put, if it is to be put
pub free_if : (b : Bool) (place number : ℕ) (rows : List (DeclAt × Head)) (one : Option Head)
    → IsFreeFrom place number rows
    → IsFreeFrom place (number + 1) (rows ++ cond b (row_under (place_at place number) one) [])
free_if true place number rows one free = free_row place number rows one free
free_if false place number rows one free = free_row place number rows None free

-- the same of a row that is put
pub free_put : (place number after : ℕ) (rows more : List (DeclAt × Head)) (one : Option Head)
    → IsFreeFrom place number rows → after ≡ number + 1
    → more ≡ rows ++ row_under (place_at place number) one → IsFreeFrom place after more
free_put place number after rows more one free next new =
    let P : ℕ → Type 0 = λ n. IsFreeFrom place n more in
    let Q : List (DeclAt × Head) → Type 0 = λ r. IsFreeFrom place (number + 1) r in
    subst P (sym next) (subst Q (sym new) (free_row place number rows one free))

-- no row is of this declaration
pub free_here : (place number : ℕ) (rows : List (DeclAt × Head)) → IsFreeFrom place number rows
    → head_of rows (place_at place number) ≡ None
free_here place number rows free = free (place_at place number) (inr (refl, omega arith))

-- none is of a later module
pub free_next : (place number : ℕ) (rows : List (DeclAt × Head)) → IsFreeFrom place number rows
    → IsFreeFrom (place + 1) 0 rows
free_next place number rows free at (inl h) = free at (inl (omega arith))
free_next place number rows free at (inr h) = free at (inl (omega arith))

-- the same, where the place is told by an equation
pub free_behind : (place now number : ℕ) (rows : List (DeclAt × Head)) → now ≡ place
    → IsFreeFrom now number rows → IsFreeFrom (place + 1) 0 rows
free_behind place now number rows here free =
    let P : ℕ → Type 0 = λ n. IsFreeFrom (n + 1) 0 rows in
    subst P here (free_next now number rows free)

-- ---- rows of which no two are of one declaration

abbrev pub IsOnce : List (DeclAt × Head) → Type 0
IsOnce rows = (i : ℕ) (row : DeclAt × Head) → slice_get rows i ≡ Some row → head_of rows row.0 ≡ Some row.1

once_row : (place number : ℕ) (rows : List (DeclAt × Head)) (one : Option Head) → IsFreeFrom place number rows
    → IsOnce rows → IsOnce (rows ++ row_under (place_at place number) one)
once_row place number rows None free once i row h =
    ap (λ r. head_of r row.0) (append-nil rows)
    ∙ once i row (ap (λ r. slice_get r i) (sym (append-nil rows)) ∙ h)
once_row place number rows (Some y) free once i row h = by (get_push rows (place_at place number, y) row i h)
  where
    by : (slice_get rows i ≡ Some row) ⊎ (row ≡ (place_at place number, y))
        → head_of (rows ++ (place_at place number, y) ∷ []) row.0 ≡ Some row.1
    by (inl old) = kept row.0 rows ((place_at place number, y) ∷ []) row.1 (once i row old)
    by (inr same) =
        let more : List (DeclAt × Head) = (place_at place number, y) ∷ [] in
        let P : DeclAt × Head → Type 0 = λ r. head_of (rows ++ more) r.0 ≡ Some r.1 in
        subst P (sym same)
        (behind (place_at place number) rows more (free_here place number rows free)
        ∙ ap (λ b. cond b (Some y) None) (place_self (place_at place number)))

pub once_if : (b : Bool) (place number : ℕ) (rows : List (DeclAt × Head)) (one : Option Head)
    → IsFreeFrom place number rows → IsOnce rows
    → IsOnce (rows ++ cond b (row_under (place_at place number) one) [])
once_if true place number rows one free once = once_row place number rows one free once
once_if false place number rows one free once = once_row place number rows None free once
