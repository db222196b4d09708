-- No name is declared again exactly where the rule on marks holds. The marks before a place stand in the
-- order of the text in the rule, and the last first in what finds the doubles.
use Rattle.std.proofs.Common.{◌≡◌, ◌⊎◌, inl, inr, ℕ, zero, suc, ◌+◌, ◌≤◌, Bool, true, false, ◌&&◌, ◌||◌, List}
use Rattle.std.proofs.Common.{[], ◌∷◌, ◌++◌, reverse, refl, sym, ap, ◌∙◌, subst, append_assoc, arith}
use Rattle.std.specs.Prelude.{Contains}
use Rattle.std.specs.Str.{bytes_eq}
use Rattle.std.proofs.lemmas.List.{append-nil, reverse-append}
use Rattle.std.proofs.lemmas.List.Elements.{Contains-append_left, Contains-append_right, Contains-append_cases}
use Rattle.std.proofs.lemmas.Slice.Eq.{bytes_eq-Decides}
use Rattle.std.proofs.lemmas.Bool.{and_from, or_cases, and_parts, or_left, or_right, false≢true}
use Rattle.au_base.specs.declared.places.Pos.{Pos}
use Rattle.au_base.proofs.ListLemmas.{Contains-first, nothing_front, nothing_there, only_item}
use Rattle.au_syntax.specs.Plain.{Bytes}
use Rattle.au_rules.specs.declared.marks.Kind.{Kind}
use Rattle.au_rules.specs.declared.marks.Kind.TheVariants.{Values, Callables, Types, Fields}
use Rattle.au_rules.specs.declared.marks.Mark.{Mark}
use Rattle.au_rules.specs.declared.marks.Mark.TheVariants.{Opens, Closes, Declares}
use Rattle.au_rules.specs.declared.marks.Role.{Role}
use Rattle.au_rules.specs.declared.marks.Role.TheVariants.{Local, Whole, Promise, Definition}
use Rattle.au_rules.specs.Doubles.{is_declaring, is_declared, is_open, is_top, same_kind, same_role, stands}
use Rattle.au_rules.specs.Once.{IsAtTop, IsDeclared, IsInBlock, IsUnknown, StaysOpen, closed, opened}

-- ---- tests of two truth values

pub not_so : (a : Bool) → ¬ (a ≡ true) → a ≡ false
not_so true h = absurd (h refl)
not_so false h = refl

pub so_not : (a : Bool) → a ≡ false → ¬ (a ≡ true)
so_not a e q = false≢true (sym e ∙ q)

-- ---- one mark

same_kind_is : (a b : Kind) → same_kind a b ≡ true → a ≡ b
same_kind_is Values Values e = refl
same_kind_is Callables Callables e = refl
same_kind_is Types Types e = refl
same_kind_is Fields Fields e = refl
same_kind_is a b e = absurd (false≢true e)

pub same_kind_self : (kind : Kind) → same_kind kind kind ≡ true
same_kind_self Values = refl
same_kind_self Callables = refl
same_kind_self Types = refl
same_kind_self Fields = refl

same_role_is : (a b : Role) → same_role a b ≡ true → a ≡ b
same_role_is Local Local e = refl
same_role_is Whole Whole e = refl
same_role_is Promise Promise e = refl
same_role_is Definition Definition e = refl
same_role_is a b e = absurd (false≢true e)

same_role_self : (role : Role) → same_role role role ≡ true
same_role_self Local = refl
same_role_self Whole = refl
same_role_self Promise = refl
same_role_self Definition = refl

-- a mark declares the name in the role
declaring : (role : Role) (kind : Kind) (name : Bytes) (m : Mark) → is_declaring role kind name m ≡ true
    → (at : Pos) × (m ≡ Declares role kind name at)
declaring role kind name Opens e = absurd (false≢true e)
declaring role kind name Closes e = absurd (false≢true e)
declaring role kind name (Declares its other same at) e =
    let parts = and_parts (same_role role its) (same_kind kind other && bytes_eq name same) e in
    let rest = and_parts (same_kind kind other) (bytes_eq name same) parts.1 in
    let one : role ≡ its = same_role_is role its parts.0 in
    let two : kind ≡ other = same_kind_is kind other rest.0 in
    let three : name ≡ same = (bytes_eq-Decides name same).0 rest.1 in
    (at, λ i. Declares (sym one i) (sym two i) (sym three i) at)

declares : (role : Role) (kind : Kind) (name : Bytes) (at : Pos) (m : Mark) → m ≡ Declares role kind name at
    → is_declaring role kind name m ≡ true
declares role kind name at m e =
    ap (is_declaring role kind name) e
    ∙ and_from (same_role role role) (same_kind kind kind && bytes_eq name name) (same_role_self role)
    (and_from (same_kind kind kind) (bytes_eq name name) (same_kind_self kind)
    ((bytes_eq-Decides name name).1 refl))

-- ---- names that are declared before a place

module _ (role : Role) (kind : Kind) (name : Bytes) where
  pub stands_declared : (before : List Mark) → stands before role kind name ≡ true
      → IsDeclared (reverse before) role kind name
  stands_declared [] e = absurd (false≢true e)
  stands_declared (m ∷ rest) e = by (stands_declared rest)
      (or_cases (is_declaring role kind name m) (stands rest role kind name) e)
    where
      by : (stands rest role kind name ≡ true → IsDeclared (reverse rest) role kind name)
          → (is_declaring role kind name m ≡ true) ⊎ (stands rest role kind name ≡ true)
          → IsDeclared (reverse (m ∷ rest)) role kind name
      by before (inl one) =
          let found = declaring role kind name m one in
          let last : Contains (m ∷ []) (Declares role kind name found.0) = subst
          (λ x. Contains (x ∷ []) (Declares role kind name found.0)) (sym found.1)
          (Contains-first (Declares role kind name found.0) []) in (
            found.0,
            subst (λ l. Contains l (Declares role kind name found.0))
                (sym (reverse-append (m ∷ []) rest))
                (Contains-append_right (reverse rest) (m ∷ []) (Declares role kind name found.0) last),
          )
      by before (inr more) =
          let found = before more in (
            found.0,
            subst (λ l. Contains l (Declares role kind name found.0))
                (sym (reverse-append (m ∷ []) rest))
                (Contains-append_left (reverse rest) (m ∷ []) (Declares role kind name found.0) found.1),
          )

  pub declared_stands : (before : List Mark) → IsDeclared (reverse before) role kind name
      → stands before role kind name ≡ true
  declared_stands [] h = absurd (nothing_there (Declares role kind name h.0) h.1)
  declared_stands (m ∷ rest) h =
      by (declared_stands rest) (Contains-append_cases (reverse rest) (m
      ∷ []) (Declares role kind name h.0) (subst (λ l. Contains l (Declares role kind name h.0))
      (reverse-append (m ∷ []) rest) h.1))
    where
      by : (IsDeclared (reverse rest) role kind name → stands rest role kind name ≡ true)
          → Contains (reverse rest) (Declares role kind name h.0)
          ⊎ Contains (m ∷ []) (Declares role kind name h.0) → stands (m ∷ rest) role kind name ≡ true
      by before (inl more) = or_right (is_declaring role kind name m) (stands rest role kind name)
          (before (h.0, more))
      by before (inr one) = or_left (is_declaring role kind name m) (stands rest role kind name)
          (declares role kind name h.0 m (only_item m (Declares role kind name h.0) one))

module _ (before : List Mark) (kind : Kind) (name : Bytes) where
  pub top_at_top : is_top before kind name ≡ true → IsAtTop (reverse before) kind name
  top_at_top e = by (or_cases (stands before Whole kind name) (stands before Promise kind name
      || stands before Definition kind name) e)
    where
      by : (stands before Whole kind name ≡ true) ⊎
          ((stands before Promise kind name || stands before Definition kind name) ≡ true)
          → IsAtTop (reverse before) kind name
      by (inl one) = inl (stands_declared Whole kind name before one)
      by (inr more) = elim (or_cases (stands before Promise kind name) (stands before Definition kind name)
          more) [
            | inl two ↦ inr (inl (stands_declared Promise kind name before two))
            | inr three ↦ inr
                (inr (stands_declared Definition kind name before three))
          ]

  pub at_top_top : IsAtTop (reverse before) kind name → is_top before kind name ≡ true
  at_top_top (inl one) = or_left (stands before Whole kind name) _
      (declared_stands Whole kind name before one)
  at_top_top (inr (inl two)) =
      or_right (stands before Whole kind name) _ (or_left (stands before Promise kind name) _
      (declared_stands Promise kind name before two))
  at_top_top (inr (inr three)) =
      or_right (stands before Whole kind name) _ (or_right (stands before Promise kind name) _
      (declared_stands Definition kind name before three))

  -- a name that no mark declares
  pub unknown_from : is_declared before kind name ≡ false → IsUnknown (reverse before) kind name
  unknown_from e = λ role h. so_not (is_declared before kind name) e (by role h)
    where
      by : (role : Role) → IsDeclared (reverse before) role kind name → is_declared before kind name ≡ true
      by Local h = or_left (stands before Local kind name) _ (declared_stands Local kind name before h)
      by Whole h = or_right (stands before Local kind name) _ (at_top_top (inl h))
      by Promise h = or_right (stands before Local kind name) _ (at_top_top (inr (inl h)))
      by Definition h = or_right (stands before Local kind name) _ (at_top_top (inr (inr h)))

  pub unknown_to : IsUnknown (reverse before) kind name → is_declared before kind name ≡ false
  unknown_to h = not_so (is_declared before kind name)
      (λ e. by (or_cases (stands before Local kind name) (is_top before kind name) e))
    where
      none : IsAtTop (reverse before) kind name → ⊥
      none (inl one) = h Whole one
      none (inr (inl two)) = h Promise two
      none (inr (inr three)) = h Definition three

      by : (stands before Local kind name ≡ true) ⊎ (is_top before kind name ≡ true) → ⊥
      by (inl one) = h Local (stands_declared Local kind name before one)
      by (inr more) = none (top_at_top more)

-- ---- blocks that are open

opened_last : (marks : List Mark) (m : Mark) → opened (marks ++ m ∷ []) ≡ opened marks + opened (m ∷ [])
opened_last [] m = omega arith
opened_last (Opens ∷ rest) m = omega (arith, opened_last rest m)
opened_last (Closes ∷ rest) m = opened_last rest m
opened_last (Declares role kind name at ∷ rest) m = opened_last rest m

closed_last : (marks : List Mark) (m : Mark) → closed (marks ++ m ∷ []) ≡ closed marks + closed (m ∷ [])
closed_last [] m = omega arith
closed_last (Opens ∷ rest) m = closed_last rest m
closed_last (Closes ∷ rest) m = omega (arith, closed_last rest m)
closed_last (Declares role kind name at ∷ rest) m = closed_last rest m

-- nothing is cut into nothing
nothing_back : {X : Type 0} (front back : List X) → [] ≡ front ++ back → back ≡ []
nothing_back [] back q = sym q
nothing_back (z ∷ zs) back q = absurd cc

-- a list that ends in an item, cut in two: the back is empty, or it ends in the item
cut_last : {X : Type 0} (xs : List X) (x : X) (front back : List X) → xs ++ x ∷ [] ≡ front ++ back
    → ((back ≡ []) × (front ≡ xs ++ x ∷ [])) ⊎ ((rest : List X) × (back ≡ rest ++ x ∷ [])
    × (xs ≡ front ++ rest))
cut_last xs x [] back e = inr (xs, sym e, refl)
cut_last [] x (y ∷ front) back e =
    let tail : [] ≡ front ++ back = cc in
    let head : y ≡ x = cc in
    inl (
      nothing_back front back tail,
      ap (λ l. y ∷ l) (nothing_front front back tail)
          ∙ ap (λ z. z ∷ []) head,
    )
cut_last {X} (z ∷ xs) x (y ∷ front) back e =
    let head : y ≡ z = cc in
    let tail : xs ++ x ∷ [] ≡ front ++ back = cc in
    by head (cut_last xs x front back tail)
  where
    by : y ≡ z → ((back ≡ []) × (front ≡ xs ++ x ∷ []))
        ⊎ ((rest : List X) × (back ≡ rest ++ x ∷ []) × (xs ≡ front ++ rest))
        → ((back ≡ []) × (y ∷ front ≡ z ∷ (xs ++ x ∷ [])))
        ⊎ ((rest : List X) × (back ≡ rest ++ x ∷ []) × (z ∷ xs ≡ y ∷ (front ++ rest)))
    by head (inl h) = inl (h.0, λ i. head i ∷ h.1 i)
    by head (inr h) = inr (h.0, h.1, λ i. sym head i ∷ h.2 i)

-- As a block that is open before marks, of which the last stands first, so are some more round it.
abbrev StaysBy : ℕ → List Mark → Type 0
StaysBy more between = StaysOpen between × (closed between + more ≤ opened between)

stays_none : StaysBy zero []
stays_none = (λ first rest e. none first rest e, omega arith)
  where
    none : (first rest : List Mark) → [] ≡ first ++ rest → closed first ≤ opened first
    none [] rest e = omega arith
    none (m ∷ first) rest e = absurd cc

-- what stays open behind one mark more
stays_more : (between : List Mark) (m : Mark) → StaysOpen between
    → closed (between ++ m ∷ []) ≤ opened (between ++ m ∷ []) → StaysOpen (between ++ m ∷ [])
stays_more between m h whole = λ first rest e. by first rest (cut_last between m first rest e)
  where
    by : (first rest : List Mark) → ((rest ≡ []) × (first ≡ between ++ m ∷ []))
        ⊎ ((r : List Mark) × (rest ≡ r ++ m ∷ []) × (between ≡ first ++ r)) → closed first ≤ opened first
    by first rest (inl all) = subst (λ l. closed l ≤ opened l) (sym all.1) whole
    by first rest (inr part) = h first part.0 part.2

stays_less : (between : List Mark) (m : Mark) → StaysOpen (between ++ m ∷ []) → StaysOpen between
stays_less between m h = λ first rest e. h first (rest ++ m ∷ []) (ap (λ l. l ++ m ∷ []) e
    ∙ append_assoc first rest (m ∷ []))

module _ (kind : Kind) (name : Bytes) where
  -- a local name is declared, and its block stays open beside some more
  abbrev InBlocks : ℕ → List Mark → Type 0
  InBlocks more before = (first between : List Mark) × (at : Pos)
      × (before ≡ first ++ Declares Local kind name at ∷ between) × StaysBy more between

  -- one mark more behind
  behind_one : (rest : List Mark) (m : Mark) (less more : ℕ)
      → ((between : List Mark) → StaysBy less between → StaysBy more (between ++ m ∷ []))
      → InBlocks less (reverse rest) → InBlocks more (reverse (m ∷ rest))
  behind_one rest m less more keeps (first, between, at, is, stays) = (
    first,
    between ++ m ∷ [],
    at,
    reverse-append (m ∷ []) rest ∙ ap (λ l. l ++ m ∷ []) is
        ∙ append_assoc first (Declares Local kind name at ∷ between) (m ∷ []),
    keeps between stays,
  )

  closes_keep : (n : ℕ) (between : List Mark) → StaysBy (suc n) between → StaysBy n (between ++ Closes ∷ [])
  closes_keep n between h =
      let o = opened_last between Closes in
      let c = closed_last between Closes in
      (stays_more between Closes h.0 (omega (arith, h.1, o, c)), omega (arith, h.1, o, c))

  opens_keep : (n : ℕ) (between : List Mark) → StaysBy n between → StaysBy (suc n) (between ++ Opens ∷ [])
  opens_keep n between h =
      let o = opened_last between Opens in
      let c = closed_last between Opens in
      (stays_more between Opens h.0 (omega (arith, h.1, o, c)), omega (arith, h.1, o, c))

  opens_keep_all : (between : List Mark) → StaysBy zero between → StaysBy zero (between ++ Opens ∷ [])
  opens_keep_all between h =
      let o = opened_last between Opens in
      let c = closed_last between Opens in
      (stays_more between Opens h.0 (omega (arith, h.1, o, c)), omega (arith, h.1, o, c))

  names_keep : (n : ℕ) (role : Role) (other : Kind) (same : Bytes) (at : Pos) (between : List Mark)
      → StaysBy n between → StaysBy n (between ++ Declares role other same at ∷ [])
  names_keep n role other same at between h =
      let o = opened_last between (Declares role other same at) in
      let c = closed_last between (Declares role other same at) in (
        stays_more between (Declares role other same at) h.0 (omega (arith, h.1, o, c)),
        omega
            (arith, h.1, o, c),
      )

  open_in_block : (n : ℕ) (before : List Mark) → is_open kind name n before ≡ true
      → InBlocks n (reverse before)
  unfolding is_open
  open_in_block n [] e = absurd (false≢true e)
  open_in_block n (Closes ∷ rest) e = behind_one rest Closes (suc n) n (closes_keep n)
      (open_in_block (suc n) rest e)
  open_in_block zero (Opens ∷ rest) e = behind_one rest Opens zero zero opens_keep_all
      (open_in_block zero rest e)
  open_in_block (suc n) (Opens ∷ rest) e = behind_one rest Opens n (suc n) (opens_keep n)
      (open_in_block n rest e)
  open_in_block zero (Declares role other same at ∷ rest) e =
      by (open_in_block zero rest) (or_cases (is_declaring Local kind name (Declares role other same at))
      (is_open kind name zero rest) e)
    where
      by : (is_open kind name zero rest ≡ true → InBlocks zero (reverse rest))
          → (is_declaring Local kind name (Declares role other same at) ≡ true)
          ⊎ (is_open kind name zero rest ≡ true)
          → InBlocks zero (reverse (Declares role other same at ∷ rest))
      by before (inl one) =
          let found = declaring Local kind name (Declares role other same at) one in (
            reverse rest,
            [],
            found.0,
            reverse-append (Declares role other same at ∷ []) rest
                ∙ ap (λ m. reverse rest ++ m ∷ []) found.1,
            stays_none,
          )
      by before (inr more) = behind_one rest (Declares role other same at) zero zero
          (names_keep zero role other same at) (before more)
  open_in_block (suc n) (Declares role other same at ∷ rest) e =
      behind_one rest (Declares role other same at) (suc n) (suc n) (names_keep (suc n) role other same at)
      (open_in_block (suc n) rest e)

  -- a list that ends in a mark, in which the name is declared: by this mark, or before it
  last_or_before : (xs : List Mark) (m : Mark) (n : ℕ) → InBlocks n (xs ++ m ∷ [])
      → ((at : Pos) × (m ≡ Declares Local kind name at) × (n ≡ zero))
      ⊎ ((first between : List Mark) × (at : Pos) × (xs ≡ first ++ Declares Local kind name at ∷ between)
      × StaysBy n (between ++ m ∷ []))
  last_or_before xs m n (first, between, at, is, stays) = by
      (cut_last xs m first (Declares Local kind name at ∷ between) is)
    where
      here : (rest : List Mark) → Declares Local kind name at ∷ between ≡ rest ++ m ∷ [] → xs ≡ first ++ rest
          → ((at : Pos) × (m ≡ Declares Local kind name at) × (n ≡ zero))
          ⊎ ((first between : List Mark) × (at : Pos)
          × (xs ≡ first ++ Declares Local kind name at ∷ between) × StaysBy n (between ++ m ∷ []))
      here [] e f =
          let only : m ≡ Declares Local kind name at = cc in
          let none : between ≡ [] = cc in
          let low : closed [] + n ≤ opened [] = subst (λ l. closed l + n ≤ opened l) none stays.1 in
          inl (at, only, omega (arith, low))
      here (d ∷ rest) e f =
          let same : d ≡ Declares Local kind name at = cc in
          let tail : between ≡ rest ++ m ∷ [] = cc in
          inr (first, rest, at, f ∙ ap (λ x. first ++ x ∷ rest) same, subst (StaysBy n) tail stays)

      by : ((Declares Local kind name at ∷ between ≡ []) × (first ≡ xs ++ m ∷ []))
          ⊎ ((rest : List Mark) × (Declares Local kind name at ∷ between ≡ rest ++ m ∷ [])
          × (xs ≡ first ++ rest))
          → ((at : Pos) × (m ≡ Declares Local kind name at) × (n ≡ zero))
          ⊎ ((first between : List Mark) × (at : Pos)
          × (xs ≡ first ++ Declares Local kind name at ∷ between) × StaysBy n (between ++ m ∷ []))
      by (inl h) = absurd (let no = h.0 in cc)
      by (inr h) = here h.0 h.1 h.2

  no_mark_is : (m : Mark) (at : Pos) → m ≡ Declares Local kind name at → is_declaring Local kind name m ≡ true
  no_mark_is m at e = declares Local kind name at m e

  closes_less : (n : ℕ) (between : List Mark) → StaysBy n (between ++ Closes ∷ []) → StaysBy (suc n) between
  closes_less n between h =
      let o = opened_last between Closes in
      let c = closed_last between Closes in
      (stays_less between Closes h.0, omega (arith, h.1, o, c))

  opens_less : (n : ℕ) (between : List Mark) → StaysBy (suc n) (between ++ Opens ∷ []) → StaysBy n between
  opens_less n between h =
      let o = opened_last between Opens in
      let c = closed_last between Opens in
      (stays_less between Opens h.0, omega (arith, h.1, o, c))

  opens_less_all : (between : List Mark) → StaysBy zero (between ++ Opens ∷ []) → StaysBy zero between
  opens_less_all between h =
      let kept = stays_less between Opens h.0 in
      let low : closed between ≤ opened between = kept between [] (sym (append-nil between)) in
      (kept, omega (arith, low))

  names_less : (n : ℕ) (role : Role) (other : Kind) (same : Bytes) (at : Pos) (between : List Mark)
      → StaysBy n (between ++ Declares role other same at ∷ []) → StaysBy n between
  names_less n role other same at between h =
      let o = opened_last between (Declares role other same at) in
      let c = closed_last between (Declares role other same at) in
      (stays_less between (Declares role other same at) h.0, omega (arith, h.1, o, c))

  -- the mark at the end, or what is before it
  parted : (rest : List Mark) (m : Mark) (n : ℕ) → InBlocks n (reverse (m ∷ rest))
      → ((at : Pos) × (m ≡ Declares Local kind name at) × (n ≡ zero))
      ⊎ ((first between : List Mark) × (at : Pos)
      × (reverse rest ≡ first ++ Declares Local kind name at ∷ between) × StaysBy n (between ++ m ∷ []))
  parted rest m n h = last_or_before (reverse rest) m n (subst (InBlocks n) (reverse-append (m ∷ []) rest) h)

  in_block_open : (n : ℕ) (before : List Mark) → InBlocks n (reverse before) → is_open kind name n before
      ≡ true
  unfolding is_open
  in_block_open n [] (first, between, at, is, stays) = absurd (none first is)
    where
      none : (first : List Mark) → [] ≡ first ++ Declares Local kind name at ∷ between → ⊥
      none [] e = cc
      none (x ∷ xs) e = cc
  in_block_open n (Closes ∷ rest) h = by (in_block_open (suc n) rest) (parted rest Closes n h)
    where
      by : (InBlocks (suc n) (reverse rest) → is_open kind name (suc n) rest ≡ true)
          → ((a : Pos) × (Closes ≡ Declares Local kind name a) × (n ≡ zero))
          ⊎ ((first between : List Mark) × (a : Pos)
          × (reverse rest ≡ first ++ Declares Local kind name a ∷ between)
          × StaysBy n (between ++ Closes ∷ [])) → is_open kind name (suc n) rest ≡ true
      by before (inl one) = absurd (let no = one.1 in cc)
      by before (inr (first, between, a, is, stays)) = before
          (first, between, a, is, closes_less n between stays)
  in_block_open zero (Opens ∷ rest) h = by (in_block_open zero rest) (parted rest Opens zero h)
    where
      by : (InBlocks zero (reverse rest) → is_open kind name zero rest ≡ true)
          → ((a : Pos) × (Opens ≡ Declares Local kind name a) × (zero ≡ zero))
          ⊎ ((first between : List Mark) × (a : Pos)
          × (reverse rest ≡ first ++ Declares Local kind name a ∷ between)
          × StaysBy zero (between ++ Opens ∷ [])) → is_open kind name zero rest ≡ true
      by before (inl one) = absurd (let no = one.1 in cc)
      by before (inr (first, between, a, is, stays)) = before
          (first, between, a, is, opens_less_all between stays)
  in_block_open (suc n) (Opens ∷ rest) h = by (in_block_open n rest) (parted rest Opens (suc n) h)
    where
      by : (InBlocks n (reverse rest) → is_open kind name n rest ≡ true)
          → ((a : Pos) × (Opens ≡ Declares Local kind name a) × ((suc n) ≡ zero))
          ⊎ ((first between : List Mark) × (a : Pos)
          × (reverse rest ≡ first ++ Declares Local kind name a ∷ between)
          × StaysBy (suc n) (between ++ Opens ∷ [])) → is_open kind name n rest ≡ true
      by before (inl one) = absurd (let no = one.1 in cc)
      by before (inr (first, between, a, is, stays)) = before
          (first, between, a, is, opens_less n between stays)
  in_block_open zero (Declares role other same at ∷ rest) h = by (in_block_open zero rest)
      (parted rest (Declares role other same at) zero h)
    where
      by : (InBlocks zero (reverse rest) → is_open kind name zero rest ≡ true)
          → ((a : Pos) × (Declares role other same at ≡ Declares Local kind name a) × (zero ≡ zero))
          ⊎ ((first between : List Mark) × (a : Pos)
          × (reverse rest ≡ first ++ Declares Local kind name a ∷ between)
          × StaysBy zero (between ++ Declares role other same at ∷ []))
          → (is_declaring Local kind name (Declares role other same at) || is_open kind name zero rest) ≡ true
      by before (inl one) = or_left (is_declaring Local kind name (Declares role other same at)) _
          (declares Local kind name one.0 (Declares role other same at) one.1)
      by before (inr (first, between, a, is, stays)) =
          or_right (is_declaring Local kind name (Declares role other same at)) _
          (before (first, between, a, is, names_less zero role other same at between stays))
  in_block_open (suc n) (Declares role other same at
      ∷ rest) h = by (in_block_open (suc n) rest) (parted rest (Declares role other same at) (suc n) h)
    where
      by : (InBlocks (suc n) (reverse rest) → is_open kind name (suc n) rest ≡ true)
          → ((a : Pos) × (Declares role other same at ≡ Declares Local kind name a) × ((suc n) ≡ zero))
          ⊎ ((first between : List Mark) × (a : Pos)
          × (reverse rest ≡ first ++ Declares Local kind name a ∷ between)
          × StaysBy (suc n) (between ++ Declares role other same at ∷ []))
          → is_open kind name (suc n) rest ≡ true
      by before (inl one) = absurd (let no = one.2 in omega arith)
      by before (inr (first, between, a, is, stays)) = before
          (first, between, a, is, names_less (suc n) role other same at between stays)

  -- a name is open exactly where it is declared in a block that is
  pub open_from : (before : List Mark) → IsInBlock (reverse before) kind name → is_open kind name zero before
      ≡ true
  open_from before (first, between, at, is, stays) =
      let low : closed between ≤ opened between = stays between [] (sym (append-nil between)) in
      in_block_open zero before (first, between, at, is, (stays, omega (arith, low)))

  pub open_to : (before : List Mark) → is_open kind name zero before ≡ true
      → IsInBlock (reverse before) kind name
  open_to before e = let found = open_in_block zero before e in
      (found.0, found.1, found.2, found.3, found.4.0)
