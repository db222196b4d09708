-- How open borrow statements, and names that are declared beside them, hold a variable.
use Rattle.std.proofs.Common.{◌≡◌, Bool, true, false, ◌||◌, if◌then◌else◌, ◌++◌, List, [], ◌∷◌, map, reverse}
use Rattle.std.proofs.Common.{refl, sym, ap, ◌∙◌, drop, ℕ, ◌+◌, ◌<◌, length, get_or}
use Rattle.std.proofs.lemmas.List.{map-append, get_or_default}
use Rattle.std.proofs.lemmas.Grind.{reverse_onto}
use Rattle.std.specs.Str.{bytes_eq}
use Rattle.au_base.proofs.ListLemmas.{next_item}
use Rattle.au_syntax.specs.declared.types.Access.{Access}
use Rattle.au_syntax.specs.Plain.{Bytes}
use Rattle.au_lives.specs.Lives.{Hold, hidden, held_from}
use Rattle.au_lives.specs.Paths.{Around, lent, declared}
use Rattle.au_paths.specs.declared.borrows.OpenBorrow.{OpenBorrow}
use Rattle.au_paths.specs.Lendings.{Lending, lending, around, held_within, lending_said, innermost_first}

twice : (b c : Bool) → (if b then hidden else if c then hidden else hidden) ≡ hidden
twice true c = refl
twice false true = refl
twice false false = refl

-- how a variable is held inside one more statement
abbrev inside_one : Bytes → Lending → Hold → Hold
inside_one x one h = held_from x (around (one ∷ [])) h

module _ (x : Bytes) where
  -- a variable that is hidden outside is hidden inside
  pub stays_hidden : (lendings : List Lending) → held_from x (around lendings) hidden ≡ hidden
  stays_hidden [] = refl
  stays_hidden (one ∷ rest) =
      ap (λ h. inside_one x one h) (stays_hidden rest)
      ∙ twice (bytes_eq one.reference x) (bytes_eq one.variable x)

  -- a statement that is opened holds the variable as its block says
  pub pushed : (hides : Bool) (y r : Bytes) (a : Access) (lendings : List Lending) →
      held_within x hides (lending y a r ∷ lendings)
      ≡ held_from x (declared r ∷ lent a y ∷ []) (held_within x hides lendings)
  pushed hides y r a lendings = refl

  -- names that are declared beside open statements hide the variable, or leave it as it is
  beside_both : (b r : Bool) (names : List Around) →
      ((h : Hold) → held_from x names h ≡ (if r then hidden else h)) →
      (lendings : List Lending) → held_within x (b || r) lendings ≡ held_from x names (held_within x b lendings)
  beside_both true true names f lendings = stays_hidden lendings ∙ sym (f (held_within x true lendings))
  beside_both true false names f lendings = sym (f (held_within x true lendings))
  beside_both false true names f lendings = stays_hidden lendings ∙ sym (f (held_within x false lendings))
  beside_both false false names f lendings = sym (f (held_within x false lendings))

  pub beside : (s b r : Bool) → (b || r) ≡ s → (names : List Around) →
      ((h : Hold) → held_from x names h ≡ (if r then hidden else h)) →
      (lendings : List Lending) → held_within x s lendings ≡ held_from x names (held_within x b lendings)
  beside s b r is names f lendings =
      ap (λ k. held_within x k lendings) (sym is) ∙ beside_both b r names f lendings

  outermost : (lendings : List Lending) (one : Lending) (h : Hold) →
      held_from x (around (lendings ++ one ∷ [])) h ≡ held_from x (around lendings) (inside_one x one h)
  outermost [] one h = refl
  outermost (other ∷ rest) one h = ap (λ k. inside_one x other k) (outermost rest one h)

  -- of statements that were opened one after another, the first is the outermost
  pub opened_first : (one : OpenBorrow) (rest : List OpenBorrow) (h : Hold) →
      held_from x (around (innermost_first (one ∷ rest))) h
      ≡ held_from x (around (innermost_first rest)) (inside_one x (lending_said one) h)
  opened_first one rest h =
      ap (λ all. held_from x (around (map lending_said all)) h) (reverse_onto rest one [])
      ∙ ap (λ all. held_from x (around all) h) (map-append lending_said (reverse rest) (one ∷ []))
      ∙ outermost (innermost_first rest) (lending_said one) h

  -- one statement more, from the outermost to the innermost
  pub hold_turn : (all : List OpenBorrow) (i : ℕ) (d : OpenBorrow) → i < length all → (h k w : Hold) →
      held_from x (around (innermost_first (drop i all))) h ≡ w →
      k ≡ inside_one x (lending_said (get_or all i d)) h →
      held_from x (around (innermost_first (drop (i + 1) all))) k ≡ w
  hold_turn all i d lt h k w before turn =
      let one = get_or all i d in
      ap (held_from x (around (innermost_first (drop (i + 1) all)))) turn
      ∙ sym (opened_first one (drop (i + 1) all) h)
      ∙ sym (ap (λ l. held_from x (around (innermost_first l)) h)
      (next_item all i one (get_or_default all i d one lt) lt))
      ∙ before
