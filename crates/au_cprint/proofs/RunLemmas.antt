-- Texts that begin alike: where what ends them is told from what is in them, they are alike as wholes.
use Rattle.std.proofs.Common.{◌≡◌, ◌≢◌, ◌⊎◌, inl, inr, ℕ, zero, suc, ◌+◌, ◌<◌, ◌≤◌, ◌^◌, Bool, true, false}
use Rattle.std.proofs.Common.{List, [], ◌∷◌, ◌++◌, length, map, drop, get_or, refl, sym, ap, subst, ◌∙◌, arith}
use Rattle.std.proofs.Common.{append_assoc, decimal}
use Rattle.std.specs.List.{flat_map, AllByRecursion}
use Rattle.std.specs.Str.Parse.{AllDigits}
use Rattle.std.specs.Prelude.{ℤ, pos, negsuc}
use Rattle.std.specs.Fmt.{signed_decimal}
use Rattle.std.proofs.lemmas.List.{append_cancel_left}
use Rattle.std.proofs.lemmas.Fmt.{decimal_is_IsNumeral, decimal_is_IsNumeral_wide}
use Rattle.std.proofs.lemmas.Str.Parse.{digit_from_value}
use Rattle.au_cprint.specs.Words.{Operand, plain, number, signed, label, name, operand_text, further, joined}
use Rattle.au_cprint.specs.Words.{applied, quoted}
use Rattle.au_cprint.specs.Told.{IsUnquoted, IsTold, IsShort, IsWide}

-- ---- first bytes

-- lists that are alike have one first item and the same others
pub same_first : {x y : ℕ} {xs ys : List ℕ} → x ∷ xs ≡ y ∷ ys → x ≡ y
same_first e = ap (λ l. get_or l 0 0) e

pub same_rest : {x y : ℕ} {xs ys : List ℕ} → x ∷ xs ≡ y ∷ ys → xs ≡ ys
same_rest e = ap (λ l. drop 1 l) e

pub same_both : {x y : ℕ} {xs ys : List ℕ} → x ≡ y → xs ≡ ys → x ∷ xs ≡ y ∷ ys
same_both {x} {y} {xs} {ys} e f = ap (λ z. z ∷ xs) e ∙ ap (λ zs. y ∷ zs) f

-- ---- runs

module _ (Inner : ℕ → Type 0) (End : ℕ → Type 0) (apart : (b : ℕ) → Inner b → End b → ⊥) where
  -- two runs of inner bytes, each with an end behind it
  pub runs_alike : (x y u v : List ℕ) (c d : ℕ) → AllByRecursion Inner x → AllByRecursion Inner y → End c
      → End d → x ++ c ∷ u ≡ y ++ d ∷ v → (x ≡ y) × (c ∷ u ≡ d ∷ v)
  runs_alike [] [] u v c d p q e f h = (refl, h)
  runs_alike [] (b ∷ y) u v c d p q e f h = absurd (apart b q.0 (subst End (same_first h) e))
  runs_alike (a ∷ x) [] u v c d p q e f h = absurd (apart a p.0 (subst End (sym (same_first h)) f))
  runs_alike (a ∷ x) (b ∷ y) u v c d p q e f h =
      let inner = runs_alike x y u v c d p.1 q.1 e f (same_rest h) in
      (same_both (same_first h) inner.0, inner.1)

-- bytes that are in words, numbers and labels; parentheses, quotation marks, commas and blanks are below them
abbrev pub IsInner : ℕ → Type 0
IsInner b = 45 ≤ b

abbrev pub IsEnd : ℕ → Type 0
IsEnd b = b < 45

pub words_alike : (x y u v : List ℕ) (c d : ℕ) → AllByRecursion IsInner x → AllByRecursion IsInner y → IsEnd c
    → IsEnd d → x ++ c ∷ u ≡ y ++ d ∷ v → (x ≡ y) × (c ∷ u ≡ d ∷ v)
words_alike = runs_alike IsInner IsEnd (λ b p e. omega (arith, p, e))

-- two quoted texts, without their first quotation marks
pub quotes_alike : (x y u v : List ℕ) → IsUnquoted x → IsUnquoted y → x ++ 34 ∷ u ≡ y ++ 34 ∷ v
    → (x ≡ y) × (34 ∷ u ≡ 34 ∷ v)
quotes_alike x y u v p q h =
    runs_alike (λ b. b ≢ 34) (λ b. b ≡ 34) (λ b p e. p e) x y u v 34 34 p q refl refl h

-- ---- operands

-- what an operand is as it is written: a run that isn't empty, or a quoted text
pub data IsOperand (text : List ℕ) : Type 0 where
  run : (b : ℕ) (rest : List ℕ) → text ≡ b ∷ rest → IsInner b → AllByRecursion IsInner rest → IsOperand text
  within : (inner : List ℕ) → text ≡ quoted inner → IsUnquoted inner → IsOperand text

-- the bytes of a numeral
digits_inner : (ds : List ℕ) → AllDigits 10 ds → AllByRecursion IsInner ds
digits_inner [] d = tt
digits_inner (c ∷ cs) d = (omega (arith, digit_from_value c d.0), digits_inner cs d.1)

-- a numeral that isn't empty is an operand, whatever inner byte stands before it
numeral_operand : (ds : List ℕ) → 0 < length ds → AllDigits 10 ds → IsOperand ds
numeral_operand [] some d = absurd (omega (arith, some))
numeral_operand (c ∷ cs) some d = run c cs refl (omega (arith, digit_from_value c d.0)) (digits_inner cs d.1)

pub number_operand : (n : ℕ) → n < 2 ^ 64 → IsOperand (decimal n)
number_operand n h =
    let is = (decimal_is_IsNumeral n h).0 in
    numeral_operand (decimal n) is.0 is.1

wide_operand : (z : ℤ) → IsWide z → IsOperand (signed_decimal z)
wide_operand (pos n) h =
    let is = (decimal_is_IsNumeral_wide n (omega (arith, h))).0 in
    numeral_operand (decimal n) is.0 is.1
wide_operand (negsuc n) h =
    run 45 (decimal (suc n)) refl (omega arith)
    (digits_inner (decimal (suc n)) (decimal_is_IsNumeral_wide (suc n) (omega (arith, h))).0.1)

label_operand : (n : ℕ) → IsShort n → IsOperand (76 ∷ decimal n)
label_operand n h =
    run 76 (decimal n) refl (omega arith)
    (digits_inner (decimal n) (decimal_is_IsNumeral n (omega (arith, h))).0.1)

-- the words among operands are words
abbrev pub IsWordOperand : Operand → Type 0
IsWordOperand (plain text) = IsOperand text
IsWordOperand (number n) = Unit {0}
IsWordOperand (signed z) = Unit {0}
IsWordOperand (label n) = Unit {0}
IsWordOperand (name text) = Unit {0}

-- an operand as it is written is an operand
pub told_operand : (o : Operand) → IsTold o → IsWordOperand o → IsOperand (operand_text o)
told_operand (plain text) t w = w
told_operand (number n) t w = number_operand n (omega (arith, t))
told_operand (signed z) t w = wide_operand z t
told_operand (label n) t w = label_operand n t
told_operand (name text) t w = within text refl t

-- what stands behind an operand begins with a comma or a parenthesis
pub behind : (os : List Operand) (u : List ℕ) → (c : ℕ) × (t : List ℕ) × (flat_map further os ++ 41 ∷ u ≡ c ∷ t)
    × IsEnd c
behind [] u = (41, u, refl, omega arith)
behind (o ∷ os) u = (44, 32 ∷ ((operand_text o ++ flat_map further os) ++ 41 ∷ u), refl, omega arith)

-- two operands, each with a comma or a parenthesis behind it
pub operands_alike : (x y : List ℕ) → IsOperand x → IsOperand y → (c d : ℕ) (t s : List ℕ) → IsEnd c → IsEnd d
    → x ++ c ∷ t ≡ y ++ d ∷ s → (x ≡ y) × (c ∷ t ≡ d ∷ s)
operands_alike x y (run a p is ia ip) (run b q js jb jq) c d t s e f h =
    words_alike x y t s c d (subst (AllByRecursion IsInner) (sym is) (ia, ip))
    (subst (AllByRecursion IsInner) (sym js) (jb, jq)) e f h
operands_alike x y (run a p is ia ip) (within q js jq) c d t s e f h =
    absurd (by (ap (λ l. l ++ c ∷ t) (sym is) ∙ h ∙ ap (λ l. l ++ d ∷ s) js))
  where
    by : a ∷ (p ++ c ∷ t) ≡ 34 ∷ ((q ++ 34 ∷ []) ++ d ∷ s) → ⊥
    by k = omega (arith, same_first k, ia)
operands_alike x y (within p is ip) (run b q js jb jq) c d t s e f h =
    absurd (by (ap (λ l. l ++ c ∷ t) (sym is) ∙ h ∙ ap (λ l. l ++ d ∷ s) js))
  where
    by : 34 ∷ ((p ++ 34 ∷ []) ++ c ∷ t) ≡ b ∷ (q ++ d ∷ s) → ⊥
    by k = omega (arith, same_first k, jb)
operands_alike x y (within p is ip) (within q js jq) c d t s e f h =
    let whole : 34 ∷ ((p ++ 34 ∷ []) ++ c ∷ t) ≡ 34 ∷ ((q ++ 34 ∷ []) ++ d ∷ s) =
    ap (λ l. l ++ c ∷ t) (sym is) ∙ h ∙ ap (λ l. l ++ d ∷ s) js in
    let inner = quotes_alike p q (c ∷ t) (d ∷ s) ip jq
    (sym (append_assoc p (34 ∷ []) (c ∷ t)) ∙ same_rest whole ∙ append_assoc q (34 ∷ []) (d ∷ s)) in
    (is ∙ ap quoted inner.0 ∙ sym js, same_rest inner.1)

-- the same where the one list is empty: an operand begins with no parenthesis
no_operand : (x t u : List ℕ) → IsOperand x → 41 ∷ u ≡ x ++ t → ⊥
no_operand x t u (run b rest is ib ir) h = by (h ∙ ap (λ l. l ++ t) is)
  where
    by : 41 ∷ u ≡ b ∷ (rest ++ t) → ⊥
    by k = omega (arith, same_first k, ib)
no_operand x t u (within inner is iu) h = by (h ∙ ap (λ l. l ++ t) is)
  where
    by : 41 ∷ u ≡ 34 ∷ ((inner ++ 34 ∷ []) ++ t) → ⊥
    by k = omega (arith, same_first k)

abbrev pub AreOperands : List Operand → Type 0
AreOperands os = AllByRecursion (λ o. IsOperand (operand_text o)) os

abbrev pub texts_of : List Operand → List (List ℕ)
texts_of os = map operand_text os

same_texts : {x y : List ℕ} {xs ys : List (List ℕ)} → x ≡ y → xs ≡ ys → x ∷ xs ≡ y ∷ ys
same_texts {x} {y} {xs} {ys} e f = ap (λ z. z ∷ xs) e ∙ ap (λ zs. y ∷ zs) f

-- further operands, with a parenthesis behind them
pub further_alike : (os ps : List Operand) (u v : List ℕ) → AreOperands os → AreOperands ps
    → flat_map further os ++ 41 ∷ u ≡ flat_map further ps ++ 41 ∷ v → (texts_of os ≡ texts_of ps) × (u ≡ v)
further_alike [] [] u v a b h = (refl, same_rest h)
further_alike [] (p ∷ ps) u v a b h = absurd (omega (arith, same_first h))
further_alike (o ∷ os) [] u v a b h = absurd (omega (arith, same_first h))
further_alike (o ∷ os) (p ∷ ps) u v a b h =
    let (c, t, left, e) = behind os u in
    let (d, s, right, f) = behind ps v in
    let x = operand_text o in
    let y = operand_text p in
    let one = operands_alike x y a.0 b.0 c d t s e f
    (ap (λ l. x ++ l) (sym left) ∙ sym (append_assoc x (flat_map further os) (41 ∷ u))
    ∙ same_rest (same_rest h) ∙ append_assoc y (flat_map further ps) (41 ∷ v) ∙ ap (λ l. y ++ l) right) in
    let more = further_alike os ps u v a.1 b.1 (left ∙ one.1 ∙ sym right) in
    (same_texts one.0 more.0, more.1)

-- operands, with a parenthesis behind them
pub joined_alike : (os ps : List Operand) (u v : List ℕ) → AreOperands os → AreOperands ps
    → joined os ++ 41 ∷ u ≡ joined ps ++ 41 ∷ v → (texts_of os ≡ texts_of ps) × (u ≡ v)
joined_alike [] [] u v a b h = (refl, same_rest h)
joined_alike [] (p ∷ ps) u v a b h =
    absurd (no_operand (operand_text p) (flat_map further ps ++ 41 ∷ v) u b.0
    (h ∙ append_assoc (operand_text p) (flat_map further ps) (41 ∷ v)))
joined_alike (o ∷ os) [] u v a b h =
    absurd (no_operand (operand_text o) (flat_map further os ++ 41 ∷ u) v a.0
    (sym h ∙ append_assoc (operand_text o) (flat_map further os) (41 ∷ u)))
joined_alike (o ∷ os) (p ∷ ps) u v a b h =
    further_alike (o ∷ os) (p ∷ ps) u v a b (same_both refl (same_both refl h))

-- a word with its operands
pub applied_alike : (w x : List ℕ) (os ps : List Operand) (u v : List ℕ) → AllByRecursion IsInner w
    → AllByRecursion IsInner x → AreOperands os → AreOperands ps → applied w os ++ u ≡ applied x ps ++ v
    → (w ≡ x) × (texts_of os ≡ texts_of ps) × (u ≡ v)
applied_alike w x os ps u v iw ix a b h =
    let whole : w ++ 40 ∷ (joined os ++ 41 ∷ u) ≡ x ++ 40 ∷ (joined ps ++ 41 ∷ v) =
    sym (spread_out w os u) ∙ h ∙ spread_out x ps v in
    let one = words_alike w x (joined os ++ 41 ∷ u) (joined ps ++ 41 ∷ v) 40 40 iw ix (omega arith) (omega arith)
    whole in
    let more = joined_alike os ps u v a b (same_rest one.1) in
    (one.0, more.0, more.1)
  where
    spread_out : (w : List ℕ) (os : List Operand) (u : List ℕ)
        → applied w os ++ u ≡ w ++ 40 ∷ (joined os ++ 41 ∷ u)
    spread_out w os u =
        append_assoc w (40 ∷ (joined os ++ 41 ∷ [])) u
        ∙ ap (λ l. w ++ 40 ∷ l) (append_assoc (joined os) (41 ∷ []) u)

-- the same of one word with one operand before the others
pub line_alike : (w : List ℕ) (o : Operand) (os ps : List Operand) (u v : List ℕ) → AreOperands os
    → AreOperands ps → applied w (o ∷ os) ++ u ≡ applied w (o ∷ ps) ++ v → (texts_of os ≡ texts_of ps) × (u ≡ v)
line_alike w o os ps u v a b h =
    further_alike os ps u v a b
    (append_cancel_left (operand_text o) _ _
    (same_rest (append_cancel_left w _ _ (sym (spread_out os u) ∙ h ∙ spread_out ps v))))
  where
    spread_out : (os : List Operand) (u : List ℕ)
        → applied w (o ∷ os) ++ u ≡ w ++ 40 ∷ (operand_text o ++ (flat_map further os ++ 41 ∷ u))
    spread_out os u =
        append_assoc w (40 ∷ ((operand_text o ++ flat_map further os) ++ 41 ∷ [])) u
        ∙ ap (λ l. w ++ 40 ∷ l)
        (append_assoc (operand_text o ++ flat_map further os) (41 ∷ []) u
        ∙ append_assoc (operand_text o) (flat_map further os) (41 ∷ u))
