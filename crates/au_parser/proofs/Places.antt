-- The place of a fault, by the words of the grammar.
use Rattle.std.proofs.Common.{◌≡◌, ℕ, zero, suc, ◌+◌, ◌-◌, ◌<◌, ◌≤◌, nat_le, Bool, true, false, List, [], ◌∷◌}
use Rattle.std.proofs.Common.{drop, ◌++◌, length, take, Ok, Err, refl, sym, ap, ◌∙◌, subst, arith, inl, inr}
use Rattle.std.proofs.Common.{◌⊎◌, append_assoc, length-append}
use Rattle.std.proofs.lemmas.Bool.{leb-true, leb-false}
use Rattle.au_base.specs.declared.limits.Limit.{Limit}
use Rattle.au_base.specs.declared.tokens.Token.{Token}
use Rattle.au_syntax.specs.Plain.{PlainModule}
use Rattle.au_read_expressions.specs.declared.faults.Fault.{Fault}
use Rattle.au_read_expressions.specs.declared.faults.Fault.TheVariants.{Syntax, Passed}
use Rattle.au_read_expressions.specs.Bounds.{Bounds}
use Rattle.au_read_expressions.specs.Reading.{Read}
use Rattle.au_parser.specs.ModuleReading.{file_at}
use Rattle.au_parser.proofs.FileForm.{file_sound, file_found}
use Rattle.au_parser.proofs.Lower.{lower}
use Rattle.au_syntax.specs.Words.{AreWords, Spells}
use Rattle.au_parser.specs.Fronts.{IsFile, BeginsFile, IsFaultPlace}
use Rattle.au_parser.specs.Measures.{measures}
use Rattle.au_parser.specs.Passing.{KeepsLimits, PassesAt, IsTold, PassBehind, passed_by}
use Rattle.au_parser.proofs.Told.{AreMeasured, Is, Begun, Stopped, Tells, Alike, fault_of}
use Rattle.au_parser.proofs.SameTypes.{are_words, are_measured}
use Rattle.au_parser.proofs.SameWords.{of_file}
use Rattle.au_parser.proofs.Levels.{passing}
use Rattle.au_parser.proofs.Files.{module_kind, file_honest}
use Rattle.au_parser.proofs.TypeCounts.{take_of}

-- which of two numbers is less
order_by : (a c : ℕ) (v : Bool) → nat_le a c ≡ v → (a ≤ c) ⊎ (c < a)
order_by a c true e = inl (leb-true a c e)
order_by a c false e = inr (leb-false a c e)

pub order_of : (a c : ℕ) → (a ≤ c) ⊎ (c < a)
order_of a c = order_by a c (nat_le a c) refl

-- ---- tokens before a place

pub drop_of : (front back : List Token) → drop (length front) (front ++ back) ≡ back
drop_of [] [] = refl
drop_of [] (t ∷ ts) = refl
drop_of (t ∷ front) back = drop_of front back

-- the tokens before a place, and those behind
pub before_place : (n : ℕ) (ts : List Token) → n ≤ length ts → (back : List Token) × (ts ≡ take n ts ++ back)
    × (length (take n ts) ≡ n)
before_place zero [] h = ([], refl, refl)
before_place zero (t ∷ ts) h = (t ∷ ts, refl, refl)
before_place (suc n) [] h = absurd (let wrong : ⊥ = omega (arith, h) in wrong)
before_place (suc n) (t ∷ ts) h = let p = before_place n ts (omega (arith, h)) in
    (p.0, ap (λ us. t ∷ us) p.1, ap suc p.2)

-- fewer tokens of those before a place
pub fewer : (m n : ℕ) (ts : List Token) → m ≤ n → (back : List Token) × (take n ts ≡ take m ts ++ back)
fewer zero n [] h = (take n [], refl)
fewer zero n (t ∷ ts) h = (take n (t ∷ ts), refl)
fewer (suc m) zero ts h = absurd (let wrong : ⊥ = omega (arith, h) in wrong)
fewer (suc m) (suc n) [] h = ([], refl)
fewer (suc m) (suc n) (t ∷ ts) h = let p = fewer m n ts (omega (arith, h)) in (p.0, ap (λ us. t ∷ us) p.1)

-- what begins with tokens that begin no file begins none
pub begins_fewer : (m n : ℕ) (ts : List Token) → m ≤ n → BeginsFile (take n ts) → BeginsFile (take m ts)
begins_fewer m n ts h f =
    let p = fewer m n ts h in
    record {
      rest = p.0 ++ f.rest;
      file = subst IsFile (append_assoc (take m ts) p.0 f.rest) (subst (λ us. IsFile (us ++ f.rest)) p.1 f.file);
    }

-- the tokens through a place
pub through_of : (front back : List Token) (t : Token) → take (length front + 1) (front ++ t ∷ back) ≡ front ++ t ∷ []
through_of [] back t = take_none back t
  where
    take_none : (back : List Token) (t : Token) → take 1 (t ∷ back) ≡ t ∷ []
    take_none [] t = refl
    take_none (u ∷ back) t = refl
through_of (u ∷ front) back t =
    let n : suc (length front) + 1 ≡ suc (length front + 1) = omega arith in
    ap (λ k. take k (u ∷ front ++ t ∷ back)) n ∙ ap (λ ts. u ∷ ts) (through_of front back t)

-- ---- trees and their words

pub spelled_of : (m : PlainModule) (ts : List Token) → Is module_kind m ts → Spells m ts
spelled_of m ts is = subst (λ ws. AreWords ws ts) (of_file m) (are_words (measures m) ts is.words)

pub measured_of : (m : PlainModule) (ts : List Token) → Spells m ts → AreMeasured (measures m) ts
measured_of m ts h = are_measured (measures m) ts (subst (λ ws. AreWords ws ts) (sym (of_file m)) h)

-- ---- what is no file

abbrev gives : PlainModule × List Token → Read PlainModule
gives x = Ok x

not_both : (x : PlainModule × List Token) (f : Fault) → gives x ≡ fault_of f → ⊥
not_both x f e = cc

other_fault : (l : Limit) (left n : ℕ) → fault_of {A = PlainModule} (Passed l left) ≡ fault_of (Syntax n) → ⊥
other_fault l left n e = cc

module _ (b : Bounds) where
  no_file : (ts : List Token) (left : ℕ) → file_at b ts ≡ Err (Syntax left) → IsFile ts → ⊥
  no_file ts left stops f =
      elim (file_found b (lower b) ts f.tree f.spelled f.formed) [
        | inl e ↦ not_both (f.tree, []) (Syntax left) (sym e ∙ stops)
        | inr p ↦ other_fault p.0 p.1 left (sym p.2 ∙ stops)
      ]

  -- a fault depends on the tokens through its place alone
  no_file_by : (p c d : List Token) (r : Read PlainModule) (left : ℕ) → r ≡ Err (Syntax left) → length c < left →
      Alike c d r (file_at b (p ++ d)) → IsFile (p ++ d) → ⊥
  no_file_by p c d (Ok x) left e h a = absurd (not_both x (Syntax left) e)
  no_file_by p c d (Err (Passed l n)) left e h a = absurd (other_fault l n left e)
  no_file_by p c d (Err (Syntax n)) left e h a =
      let same : n ≡ left = cc in
      elim a [
        | inl short ↦ absurd (let wrong : ⊥ = omega (arith, short, same, h) in wrong)
        | inr w ↦ no_file (p ++ d) (w.0 + length d) w.2
      ]

  through_none : (p c d : List Token) (left : ℕ) → file_at b (p ++ c) ≡ Err (Syntax left) → length c < left →
      IsFile (p ++ d) → ⊥
  through_none p c d left e h = no_file_by p c d (file_at b (p ++ c)) left e h ((file_honest b).alike p c d)

  through_place : (ts : List Token) (left : ℕ) → file_at b ts ≡ Err (Syntax left) → left ≤ length ts →
      length ts - left < length ts → BeginsFile (take (length ts - left + 1) ts) → ⊥
  through_place ts left e most h f =
      let n : ℕ = length ts - left + 1 in
      let p = before_place n ts (omega (arith, h)) in
      let l = ap length p.1 ∙ length-append (take n ts) p.0 in
      through_none (take n ts) p.0 f.rest left (subst (λ us. file_at b us ≡ Err (Syntax left)) p.1 e)
      (omega (arith, l, p.2, h, most)) f.file

  begun_front : (ts : List Token) (left : ℕ) → Begun (passing b b.nesting) module_kind ts left → (left ≤ length ts) ×
      BeginsFile (take (length ts - left) ts)
  begun_front ts left h =
      let l = ap length h.same ∙ length-append h.front h.back in
      let n : length ts - left ≡ length h.front = omega (arith, l, h.size) in (
        omega (arith, l, h.size),
        subst (λ us. BeginsFile us) (sym (ap (λ us. take (length ts - left) us) h.same ∙ ap
            (λ k. take k (h.front ++ h.back)) n
            ∙ take_of h.front h.back))
            (record {
              rest = h.rest;
              file = record { tree = h.tree; formed = h.is.good; spelled = spelled_of h.tree (h.front ++ h.rest) h.is };
            }),
      )

  -- what is told of a fault
  pub begun_of : (ts : List Token) (left : ℕ) → file_at b ts ≡ Err (Syntax left) →
      Begun (passing b b.nesting) module_kind ts left
  begun_of ts left e = subst (Tells (passing b b.nesting) module_kind ts) e ((file_honest b).tells ts)

  stopped_of : (ts : List Token) (l : Limit) (left : ℕ) → file_at b ts ≡ Err (Passed l left) →
      Stopped (passing b b.nesting) module_kind ts l left
  stopped_of ts l left e = subst (Tells (passing b b.nesting) module_kind ts) e ((file_honest b).tells ts)

  pub syntax_place : (ts : List Token) (left : ℕ) → file_at b ts ≡ Err (Syntax left) → IsFaultPlace ts
      (length ts - left)
  syntax_place ts left e =
      let f = begun_front ts left (begun_of ts left e) in
      record {
        within = omega arith;
        before = f.1;
        through = through_place ts left e f.0;
        short = no_file ts left e;
      }

  -- where a limit is told, some file passes it first with a token
  pub limit_place : (ts : List Token) (l : Limit) (left : ℕ) → file_at b ts ≡ Err (Passed l left) →
      (place : ℕ) × PassesAt b ts place l
  limit_place ts l left e =
      let h = stopped_of ts l left e in
      let size = ap length h.same ∙ length-append h.front (h.last ∷ h.back) in
      let front : take (length h.front) ts ≡ h.front =
      ap (take (length h.front)) h.same ∙ take_of h.front (h.last ∷ h.back) in
      let through : take (length h.front + 1) ts ≡ h.front ++ h.last ∷ [] =
      ap (take (length h.front + 1)) h.same ∙ through_of h.front h.back h.last in
      let behind : drop (length h.front) ts ≡ h.last ∷ h.back =
      ap (drop (length h.front)) h.same ∙ drop_of h.front (h.last ∷ h.back) in (
        length h.front,
        record {
          within = omega (arith, size);
          tree = h.tree;
          rest = h.rest;
          formed = h.is.good;
          spelled = subst (λ us. Spells h.tree (us ++ h.rest)) (sym through)
              (subst (Spells h.tree) (sym (append_assoc h.front (h.last ∷ []) h.rest))
              (spelled_of h.tree (h.front ++ h.last ∷ h.rest) h.is));
          what = h.what;
          passes = subst (λ us. PassBehind (passed_by b b.nesting) h.what us (measures h.tree)) (sym front) h.passes;
          told = subst (λ us. IsTold b h.what us (drop (length h.front) ts) l) (sym front)
              (subst (λ us. IsTold b h.what h.front us l) (sym behind) h.told);
        },
      )

  -- where reading stops, the tokens before begin some file and pass no limit in it
  pub limits_kept : (ts : List Token) (left : ℕ) → file_at b ts ≡ Err (Syntax left) →
      KeepsLimits b (take (length ts - left) ts)
  limits_kept ts left e =
      let h = begun_of ts left e in
      let l = ap length h.same ∙ length-append h.front h.back in
      let n : length ts - left ≡ length h.front = omega (arith, l, h.size) in
      let same : take (length ts - left) ts ≡ h.front =
      ap (λ us. take (length ts - left) us) h.same ∙ ap (λ k. take k (h.front ++ h.back)) n ∙ take_of h.front h.back in
      subst (KeepsLimits b) (sym same)
      (record {
        tree = h.tree;
        rest = h.rest;
        formed = h.is.good;
        spelled = spelled_of h.tree (h.front ++ h.rest) h.is;
        keeps = h.keeps;
      })

-- a token with which a limit is passed comes before the place of the fault
pub passes_before : (b : Bounds) (ts : List Token) (i place : ℕ) (l : Limit) → PassesAt b ts i l →
    IsFaultPlace ts place → i < place
passes_before b ts i place l h p =
    elim (order_of place i) [
      | inr less ↦ less
      | inl more ↦ absurd (p.through (let r : place < length ts = omega (arith, more, h.within) in r)
          (begins_fewer (place + 1) (i + 1) ts (omega (arith, more))
          (record { rest = h.rest; file = record { tree = h.tree; formed = h.formed; spelled = h.spelled } })))
    ]

pub one_place : (ts : List Token) (a b : ℕ) → IsFaultPlace ts a → IsFaultPlace ts b → a ≡ b
one_place ts a b p q =
    elim (order_of a b) [
      | inr h ↦ absurd (q.through (let r : b < length ts = omega (arith, h, p.within) in r)
          (begins_fewer (b + 1) a ts (omega (arith, h)) p.before))
      | inl h ↦ elim (order_of b a) [
        | inl k ↦ omega (arith, h, k)
        | inr k ↦ absurd (p.through (let r : a < length ts = omega (arith, k, q.within) in r)
            (begins_fewer (a + 1) b ts (omega (arith, k)) q.before))
      ]
    ]

module _ (b : Bounds) where
  file_is : (ts rest : List Token) (m : PlainModule) → file_at b ts ≡ Ok (m, rest) → IsFile ts
  file_is ts rest m e =
      let s = file_sound b (lower b) ts rest m e in
      record { tree = m; formed = s.2; spelled = s.1 }

  told_by : (ts : List Token) (place : ℕ) → IsFaultPlace ts place → (r : Read PlainModule) → file_at b ts ≡ r
      → (r ≡ Err (Syntax (length ts - place)))
      ⊎ ((l : Limit) × (left : ℕ) × (r ≡ Err (Passed l left)) × ((i : ℕ) × PassesAt b ts i l × (i < place)))
  told_by ts place p (Ok x) e = absurd (p.short (file_is ts x.1 x.0 e))
  told_by ts place p (Err (Syntax left)) e =
      let f = begun_front b ts left (begun_of b ts left e) in
      let same = one_place ts (length ts - left) place (syntax_place b ts left e) p in
      let n : left ≡ length ts - place = omega (arith, same, f.0) in
      inl (ap (λ k. fault_of (Syntax k)) n)
  told_by ts place p (Err (Passed l left)) e =
      let h = limit_place b ts l left e in
      inr (l, left, refl, (h.0, h.1, passes_before b ts h.0 place l h.1 p))

  -- what has a place of a fault is told with it, or with a limit that is passed before
  pub place_told : (ts : List Token) (place : ℕ) → IsFaultPlace ts place
      → (file_at b ts ≡ Err (Syntax (length ts - place)))
      ⊎ ((l : Limit) × (left : ℕ) × (file_at b ts ≡ Err (Passed l left))
      × ((i : ℕ) × PassesAt b ts i l × (i < place)))
  place_told ts place p = told_by ts place p (file_at b ts) refl
