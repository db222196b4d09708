-- Lists of parts keep what is told of reading.
use Rattle.std.proofs.Common.{◌≡◌, ℕ, zero, suc, ◌<◌, ◌≤◌, Bool, true, false, ◌&&◌, List, [], ◌∷◌, ◌++◌}
use Rattle.std.proofs.Common.{length, map, Option, Some, None, Ok, refl, sym, ap, ◌∙◌, subst, arith, inl, inr}
use Rattle.std.proofs.Common.{cond, append_assoc, length-append}
use Rattle.std.specs.List.{flat_map, list_all}
use Rattle.std.proofs.lemmas.Bool.{and_from}
use Rattle.std.proofs.lemmas.List.{append-nil}
use Rattle.au_base.specs.declared.tokens.Sign.{Sign as SignOf}
use Rattle.au_base.specs.declared.tokens.Sign.TheVariants.{Comma}
use Rattle.au_base.specs.declared.tokens.Token.{Token}
use Rattle.au_base.specs.declared.tokens.What.{What}
use Rattle.au_base.specs.declared.tokens.What.TheVariants.{Sign}
use Rattle.au_syntax.specs.Words.{Words}
use Rattle.au_syntax.specs.Forms.{some}
use Rattle.au_read_expressions.specs.Reading.{Read, ◌>>=◌, no, front, is_front, same_what, tokens_at, read_of}
use Rattle.au_read_expressions.specs.Reading.{behind_tokens, closed, closed_at, shaped, built_at, before_all}
use Rattle.au_read_expressions.specs.Reading.{then_all, repeated_at, repeated, after_part, separated_at}
use Rattle.au_read_expressions.specs.Reading.{separated, listed, bracketed, optional_of, optional}
use Rattle.au_read_expressions.specs.Spelling.{fixed}
use Rattle.au_read_expressions.proofs.Steps.{same_is}
use Rattle.au_parser.specs.Measures.{Measures, plains, joined_by, enclosed}
use Rattle.au_parser.specs.Passing.{Keep}
use Rattle.au_parser.proofs.Told.{Passing, AreMeasured, signs, Kind, Is, Example, Whole, Tells, Past}
use Rattle.au_parser.proofs.Told.{Alike, Honest, are_join, are_size, built_tells, bind_tells, past_more}
use Rattle.au_parser.proofs.Told.{keep_plains, keep_join, Agrees, Carries, Extends, agree_same}
use Rattle.au_parser.proofs.Told.{agrees_empty, agrees_is, agrees_longer, bind_agrees, built_agrees}
use Rattle.au_parser.proofs.Told.{built_extends, tells_good, tells_cut, tells_past, bind_past}
use Rattle.au_parser.proofs.Told.{past_alike, bind_alike, built_alike}
use Rattle.au_parser.proofs.Ways.{same_honest, none_honest, behind_kind, closed_kind, behind_honest}
use Rattle.au_parser.proofs.Ways.{closed_honest, kind_honest, no_tells, shaped_honest}
use Rattle.au_parser.proofs.FirstTokens.{test_honest}

module _ {A : Type 0} (kind : Kind A) where
  -- one after another
  abbrev pub repeated_kind : Kind (List A)
  repeated_kind = record { words = flat_map kind.words; good = list_all kind.good }

  -- one or more with words between
  abbrev pub separated_kind : Words → Kind (List A)
  separated_kind between = record {
    words = λ xs. joined_by (plains between) (map kind.words xs);
    good = λ xs. some xs && list_all kind.good xs;
  }

  -- with commas between and signs round them
  abbrev pub bracketed_kind : SignOf → SignOf → Kind (List A)
  bracketed_kind left right = record {
    words = λ xs. enclosed left right (map kind.words xs);
    good = list_all kind.good;
  }

  -- a part that may stand behind a token
  abbrev pub optional_words : What → Option A → Measures
  optional_words what None = []
  optional_words what (Some x) = signs (what ∷ []) ++ kind.words x

  abbrev pub optional_good : Option A → Bool
  optional_good None = true
  optional_good (Some x) = kind.good x

  abbrev pub optional_kind : What → Kind (Option A)
  optional_kind what = record { words = optional_words what; good = optional_good }

  is_none : Is repeated_kind [] []
  is_none = record { words = tt; good = refl }

  is_more : (x : A) (xs : List A) (us vs : List Token) → Is kind x us → Is repeated_kind xs vs →
      Is repeated_kind (x ∷ xs) (us ++ vs)
  is_more x xs us vs h k = record {
    words = are_join (kind.words x) (flat_map kind.words xs) us vs h.words k.words;
    good = and_from (kind.good x) (list_all kind.good xs) h.good k.good;
  }

  pub is_one : (between : What) (x : A) (us : List Token) → Is kind x us → Is
      (separated_kind (fixed (between ∷ []))) (x ∷ []) us
  is_one between x us h = record {
    words = subst (λ ws. AreMeasured ws us) (sym (append-nil (kind.words x))) h.words;
    good = and_from (kind.good x) true h.good refl;
  }

  -- a part and a token before others
  pub next_carries : (between : What) (x : A) → kind.good x ≡ true →
      Carries (separated_kind (fixed (between ∷ []))) (separated_kind (fixed (between ∷ [])))
      (kind.words x ++ signs (between ∷ [])) (λ xs. x ∷ xs)
  next_carries between x g = record { words = next_words; good = next_good }
    where
      next_words : (xs : List A) → (separated_kind (fixed (between ∷ []))).good xs ≡ true →
          (separated_kind (fixed (between ∷ []))).words (x ∷ xs)
          ≡ (kind.words x ++ signs (between ∷ [])) ++ (separated_kind (fixed (between ∷ []))).words xs
      next_words [] h = absurd (let wrong = h in cc)
      next_words (y ∷ ys) h =
          sym (append_assoc (kind.words x) (signs (between ∷ []))
          ((separated_kind (fixed (between ∷ []))).words (y ∷ ys)))

      next_good : (xs : List A) → (separated_kind (fixed (between ∷ []))).good xs ≡ true →
          (separated_kind (fixed (between ∷ []))).good (x ∷ xs) ≡ true
      next_good [] h = absurd (let wrong = h in cc)
      next_good (y ∷ ys) h = and_from (kind.good x) (list_all kind.good (y ∷ ys)) g h

  pub next_are : (between : What) (x : A) (us : List Token) (t : Token) → AreMeasured (kind.words x) us →
      t.what ≡ between → AreMeasured (kind.words x ++ signs (between ∷ [])) (us ++ t ∷ [])
  next_are between x us t are e = are_join (kind.words x) (signs (between ∷ [])) us (t ∷ []) are ((e, tt), tt)

module _ {A : Type 0} (P : Passing) (kind : Kind A) (read : List Token → Read A) (honest : Honest P kind read) where
  left_behind : (x : A) (ts behind : List Token) → read ts ≡ Ok (x, behind) → Whole P kind x ts behind
  left_behind x ts behind e = subst (Tells P kind ts) e (honest.tells ts)

  pub not_longer : (x : A) (ts behind : List Token) → read ts ≡ Ok (x, behind) → length behind ≤ length ts
  not_longer x ts behind e =
      let w = left_behind x ts behind e in
      let l = ap length w.same ∙ length-append w.front behind in
      let r : length behind ≤ length ts = omega (arith, l) in r

  pub shorter : ((x : A) → kind.good x ≡ true → 0 < length (kind.words x)) → (x : A) (ts behind : List Token) →
      read ts ≡ Ok (x, behind) → length behind < length ts
  shorter some_words x ts behind e =
      let w = left_behind x ts behind e in
      let l = ap length w.same ∙ length-append w.front behind in
      let n = are_size (kind.words x) w.front w.is.words in
      let r : length behind < length ts = omega (arith, l, n, some_words x w.is.good) in r

  -- ---- one after another

  module _ (begins : Option What → Bool) (some_words : (x : A) → kind.good x ≡ true → 0 < length (kind.words x)) where
    more_carries : (x : A) → kind.good x ≡ true →
        Carries (repeated_kind kind) (repeated_kind kind) (kind.words x) (λ xs. x ∷ xs)
    more_carries x g = record {
      words = λ xs h. refl;
      good = λ xs h. and_from (kind.good x) (list_all kind.good xs) g h;
    }

    none_read : (ts : List Token) → Tells P (repeated_kind kind) ts (read_of [] ts)
    none_read ts = record { front = []; same = refl; is = is_none kind; keeps = tt }

    repeated_by : (k : ℕ) (ts : List Token) (v : Bool)
        → Tells P (repeated_kind kind) ts (read ts >>= then_all (repeated_at begins read k))
        → Tells P (repeated_kind kind) ts (cond v (read ts >>= then_all (repeated_at begins read k)) (read_of [] ts))
    repeated_by k ts true h = h
    repeated_by k ts false h = none_read ts

    repeated_tells : (k : ℕ) (ts : List Token) → Tells P (repeated_kind kind) ts (repeated_at begins read k ts)
    repeated_tells zero ts = none_read ts
    repeated_tells (suc k) ts =
        repeated_by k ts (begins (front ts)) (
        bind_tells P kind (repeated_kind kind) ts (then_all (repeated_at begins read k))
        (λ x front rest same is keep. built_tells P (repeated_kind kind) (repeated_kind kind) front ts rest same
        (kind.words x) is.words keep (λ xs. x ∷ xs) (more_carries x is.good)
        (repeated_at begins read k rest) (repeated_tells k rest))
        (λ x us is. record {
          rest = [];
          tree = x ∷ [];
          is = is_more kind x [] us [] is (is_none kind);
          words = ([], inl refl);
        })
        (read ts) (honest.tells ts))

    repeated_past : (k : ℕ) (ts : List Token) → Past (length ts) (repeated_at begins read k ts)
    repeated_past k ts = tells_past P (repeated_kind kind) ts (repeated_at begins read k ts) (repeated_tells k ts)

    then_past : (k : ℕ) (x : A × List Token) → Past (length x.1) (then_all (repeated_at begins read k) x)
    then_past k x = bind_past (length x.1) (before_all x.0) (λ y. omega arith) (repeated_at begins read k x.1)
        (repeated_past k x.1)

    repeated_test : (k j : ℕ) (t : Token) (p b c : List Token) (v : Bool)
        → Alike b c (read (t ∷ p ++ b) >>= then_all (repeated_at begins read k))
        (read (t ∷ p ++ c) >>= then_all (repeated_at begins read j))
        → Alike b c (cond v (read (t ∷ p ++ b) >>= then_all (repeated_at begins read k)) (read_of [] (t ∷ p ++ b)))
        (cond v (read (t ∷ p ++ c) >>= then_all (repeated_at begins read j)) (read_of [] (t ∷ p ++ c)))
    repeated_test k j t p b c true h = h
    repeated_test k j t p b c false h = inr (record { between = t ∷ p; same = refl; there = refl })

    repeated_alike : (k j : ℕ) (p b c : List Token) → length (p ++ b) ≤ k → length (p ++ c) ≤ j →
        Alike b c (repeated_at begins read k (p ++ b)) (repeated_at begins read j (p ++ c))
    repeated_alike k j [] b c h i = past_alike b c (repeated_at begins read j c) (repeated_at begins read k b)
        (repeated_past k b)
    repeated_alike zero j (t ∷ p) b c h i = absurd (let wrong : ⊥ = omega (arith, h) in wrong)
    repeated_alike (suc k) zero (t ∷ p) b c h i = absurd (let wrong : ⊥ = omega (arith, i) in wrong)
    repeated_alike (suc k) (suc j) (t ∷ p) b c h i =
        repeated_test k j t p b c (begins (Some t.what)) (
        bind_alike b c (read (t ∷ p ++ c)) (then_all (repeated_at begins read k)) (then_all (repeated_at begins read j))
        (then_past k) (read (t ∷ p ++ b))
        (λ x q e.
        let d = shorter some_words x (t ∷ p ++ b) (q ++ b) e in
        let qb = length-append q b in let pb = length-append p b in
        let qc = length-append q c in let pc = length-append p c in
        built_alike b c (λ xs. x ∷ xs) (repeated_at begins read k (q ++ b)) (repeated_at begins read j (q ++ c))
        (repeated_alike k j q b c (omega (arith, h, d)) (omega (arith, i, d, qb, pb, qc, pc))))
        (honest.alike (t ∷ p) b c))

    then_extends : (k : ℕ) (x : A × List Token) (z : List A × List Token) → then_all (repeated_at begins read k) x ≡ Ok z →
        Extends (kind.words x.0) ((repeated_kind kind).words z.0)
    then_extends k x z e = built_extends (repeated_kind kind) (repeated_kind kind) (kind.words x.0) (λ xs. x.0 ∷ xs)
        (λ xs. (flat_map kind.words xs, inl refl)) (repeated_at begins read k x.1) z e

    repeated_either : (k j : ℕ) (t : Token) (p b c : List Token) (v : Bool)
        → Agrees (repeated_kind kind) (t ∷ p) b (read (t ∷ p ++ b) >>= then_all (repeated_at begins read k))
        (read (t ∷ p ++ c) >>= then_all (repeated_at begins read j))
        → Agrees (repeated_kind kind) (t ∷ p) b
        (cond v (read (t ∷ p ++ b) >>= then_all (repeated_at begins read k)) (read_of [] (t ∷ p ++ b)))
        (cond v (read (t ∷ p ++ c) >>= then_all (repeated_at begins read j)) (read_of [] (t ∷ p ++ c)))
    repeated_either k j t p b c true h = h
    repeated_either k j t p b c false h =
        agrees_is (repeated_kind kind) (t ∷ p) b [] [] (t ∷ p ++ b) (t ∷ p ++ c) refl tt

    repeated_agree : (k j : ℕ) (p b c : List Token) → length (p ++ b) ≤ k → length (p ++ c) ≤ j →
        Agrees (repeated_kind kind) p b (repeated_at begins read k (p ++ b)) (repeated_at begins read j (p ++ c))
    repeated_agree k j [] b c h i = agrees_empty (repeated_kind kind) b (repeated_at begins read k b)
        (repeated_at begins read j c)
    repeated_agree zero j (t ∷ p) b c h i = absurd (let wrong : ⊥ = omega (arith, h) in wrong)
    repeated_agree (suc k) zero (t ∷ p) b c h i = absurd (let wrong : ⊥ = omega (arith, i) in wrong)
    repeated_agree (suc k) (suc j) (t ∷ p) b c h i =
        repeated_either k j t p b c (begins (Some t.what)) (
        bind_agrees kind (repeated_kind kind) (t ∷ p) b c (then_all (repeated_at begins read k))
        (then_all (repeated_at begins read j)) (then_extends k) (then_extends j) (read (t ∷ p ++ b)) (read (t ∷ p ++ c))
        (honest.alike (t ∷ p) b c) (honest.agree (t ∷ p) b c)
        (λ x q e.
        let d = shorter some_words x (t ∷ p ++ b) (q ++ b) e in
        let qb = length-append q b in let pb = length-append p b in
        let qc = length-append q c in let pc = length-append p c in
        let w = tells_cut P kind (t ∷ p) b (read (t ∷ p ++ b)) (honest.tells (t ∷ p ++ b)) x q e in
        built_agrees (repeated_kind kind) (repeated_kind kind) w.0 q (t ∷ p) b w.1 (kind.words x) w.2.words (λ xs. x ∷ xs)
        (more_carries x w.2.good) (repeated_at begins read k (q ++ b)) (repeated_at begins read j (q ++ c))
        (tells_good P (repeated_kind kind) (q ++ b) (repeated_at begins read k (q ++ b)) (repeated_tells k (q ++ b)))
        (tells_good P (repeated_kind kind) (q ++ c) (repeated_at begins read j (q ++ c)) (repeated_tells j (q ++ c)))
        (repeated_agree k j q b c (omega (arith, h, d)) (omega (arith, i, d, qb, pb, qc, pc)))))

    pub repeated_honest : Honest P (repeated_kind kind) (repeated begins read)
    repeated_honest = record {
      example = record { tree = []; tokens = []; is = is_none kind };
      tells = λ ts. repeated_tells (length ts) ts;
      alike = λ p b c. repeated_alike (length (p ++ b)) (length (p ++ c)) p b c (omega arith) (omega arith);
      agree = λ p b c. repeated_agree (length (p ++ b)) (length (p ++ c)) p b c (omega arith) (omega arith);
    }

  -- ---- with a token between

  module _ (between : What) where
    abbrev sep : Kind (List A)
    sep = separated_kind kind (fixed (between ∷ []))

    abbrev others : ℕ → List Token → Read (List A)
    others k = separated_at between read k

    some_sep : Example sep
    some_sep = record {
      tree = honest.example.tree ∷ [];
      tokens = honest.example.tokens;
      is = is_one kind between honest.example.tree honest.example.tokens honest.example.is;
    }

    one_whole : (x : A) (ts front rest : List Token) → ts ≡ front ++ rest → Is kind x front → Keep P.of (kind.words x) →
        Whole P sep (x ∷ []) ts rest
    one_whole x ts front rest same is keep = record {
      front = front;
      same = same;
      is = is_one kind between x front is;
      keeps = keep_join P.of (kind.words x) [] keep tt;
    }

    after_by : (k : ℕ) (x : A) (ts front : List Token) (t : Token) (rest : List Token) → ts ≡ front ++ t ∷
        rest → Is kind x front → Keep P.of (kind.words x) →
        (v : Bool) → (v ≡ true → Tells P sep ts (others k rest >>= before_all x))
        → Tells P sep ts (cond v (others k rest >>= before_all x) (read_of (x ∷ []) (t ∷ rest)))
    after_by k x ts front t rest same is keep true on = on refl
    after_by k x ts front t rest same is keep false on = one_whole x ts front (t ∷ rest) same is keep

    after_tells : (k : ℕ) → ((us : List Token) → Tells P sep us (others k us)) → (x : A) (ts front rest : List Token) →
        ts ≡ front ++ rest → Is kind x front → Keep P.of (kind.words x) →
        Tells P sep ts (after_part between (others k) (x, rest))
    after_tells k more x ts front [] same is keep = one_whole x ts front [] same is keep
    after_tells k more x ts front (t ∷ rest) same is keep =
        after_by k x ts front t rest same is keep (same_what t.what between) (λ e.
        built_tells P sep sep (front ++ t ∷ []) ts rest (same ∙ sym (append_assoc front (t ∷ []) rest))
        (kind.words x ++ signs (between ∷ [])) (next_are kind between x front t is.words (same_is t.what between e))
        (keep_join P.of (kind.words x) (signs (between ∷ [])) keep (keep_plains P (fixed (between ∷ []))))
        (λ xs. x ∷ xs) (next_carries kind between x is.good) (others k rest) (more rest))

    separated_tells : (k : ℕ) (ts : List Token) → Tells P sep ts (others k ts)
    separated_tells zero ts = no_tells P sep some_sep ts
    separated_tells (suc k) ts =
        bind_tells P kind sep ts (after_part between (others k))
        (λ x front rest same is keep. after_tells k (separated_tells k) x ts front rest same is keep)
        (λ x us is. record {
          rest = [];
          tree = x ∷ [];
          is = subst (Is sep (x ∷ [])) (sym (append-nil us)) (is_one kind between x us is);
          words = ([], inl refl);
        })
        (read ts) (honest.tells ts)

    separated_past : (k : ℕ) (ts : List Token) → Past (length ts) (others k ts)
    separated_past k ts = tells_past P sep ts (others k ts) (separated_tells k ts)

    after_past_by : (k : ℕ) (x : A) (t : Token) (rest : List Token) (v : Bool)
        → Past (suc (length rest)) (cond v (others k rest >>= before_all x) (read_of (x ∷ []) (t ∷ rest)))
    after_past_by k x t rest true =
        past_more (length rest) (suc (length rest)) (others k rest >>= before_all x) (omega arith)
        (bind_past (length rest) (before_all x) (λ y. omega arith) (others k rest) (separated_past k rest))
    after_past_by k x t rest false = omega arith

    after_past_of : (k : ℕ) (x : A) (rest : List Token) → Past (length rest) (after_part between (others k) (x, rest))
    after_past_of k x [] = omega arith
    after_past_of k x (t ∷ rest) = after_past_by k x t rest (same_what t.what between)

    pub after_past : (k : ℕ) (x : A × List Token) → Past (length x.1) (after_part between (others k) x)
    after_past k x = after_past_of k x.0 x.1

    after_alike_by : (k j : ℕ) (x : A) (t : Token) (q b c : List Token) → Alike b c (others k (q ++ b))
        (others j (q ++ c))
        → (v : Bool) → Alike b c (cond v (others k (q ++ b) >>= before_all x) (read_of (x ∷ []) (t ∷ q ++ b)))
        (cond v (others j (q ++ c) >>= before_all x) (read_of (x ∷ []) (t ∷ q ++ c)))
    after_alike_by k j x t q b c on true = built_alike b c (λ xs. x ∷ xs) (others k (q ++ b)) (others j (q ++ c)) on
    after_alike_by k j x t q b c on false = inr (record { between = t ∷ q; same = refl; there = refl })

    after_alike : (k j : ℕ) (x : A) (q b c : List Token)
        → ((r : List Token) → length (r ++ b) ≤ k → length (r ++ c) ≤ j → Alike b c (others k (r ++ b))
        (others j (r ++ c)))
        → length (q ++ b) ≤ suc k → length (q ++ c) ≤ suc j
        → Alike b c (after_part between (others k) (x, q ++ b)) (after_part between (others j) (x, q ++ c))
    after_alike k j x [] b c on h i =
        past_alike b c (after_part between (others j) (x, c)) (after_part between (others k) (x, b))
        (after_past_of k x b)
    after_alike k j x (t ∷ q) b c on h i =
        after_alike_by k j x t q b c (on q (omega (arith, h)) (omega (arith, i))) (same_what t.what between)

    separated_alike : (k j : ℕ) (p b c : List Token) → length (p ++ b) ≤ k → length (p ++ c) ≤ j →
        Alike b c (others k (p ++ b)) (others j (p ++ c))
    separated_alike k j [] b c h i = past_alike b c (others j c) (others k b) (separated_past k b)
    separated_alike zero j (t ∷ p) b c h i = absurd (let wrong : ⊥ = omega (arith, h) in wrong)
    separated_alike (suc k) zero (t ∷ p) b c h i = absurd (let wrong : ⊥ = omega (arith, i) in wrong)
    separated_alike (suc k) (suc j) (t ∷ p) b c h i =
        bind_alike b c (read (t ∷ p ++ c)) (after_part between (others k)) (after_part between (others j))
        (after_past k) (read (t ∷ p ++ b))
        (λ x q e.
        let d = not_longer x (t ∷ p ++ b) (q ++ b) e in
        let qb = length-append q b in let pb = length-append p b in
        let qc = length-append q c in let pc = length-append p c in
        after_alike k j x q b c (λ r. separated_alike k j r b c) (omega (arith, h, d))
        (omega (arith, i, d, qb, pb, qc, pc)))
        (honest.alike (t ∷ p) b c)

    after_extends_by : (k : ℕ) (x : A) (t : Token) (rest : List Token) (v : Bool) (z : List A × List Token)
        → cond v (others k rest >>= before_all x) (read_of (x ∷ []) (t ∷ rest)) ≡ Ok z →
        Extends (kind.words x) (sep.words z.0)
    after_extends_by k x t rest true z e = built_extends sep sep (kind.words x) (λ xs. x ∷ xs)
        (λ xs. (_, inl refl)) (others k rest) z e
    after_extends_by k x t rest false z e =
        let same : x ∷ [] ≡ z.0 = cc in subst (λ zs. Extends (kind.words x) (sep.words zs)) same ([], inl refl)

    after_extends_of : (k : ℕ) (x : A) (rest : List Token) (z : List A × List Token)
        → after_part between (others k) (x, rest) ≡ Ok z → Extends (kind.words x) (sep.words z.0)
    after_extends_of k x [] z e =
        let same : x ∷ [] ≡ z.0 = cc in subst (λ zs. Extends (kind.words x) (sep.words zs)) same ([], inl refl)
    after_extends_of k x (t ∷ rest) z e = after_extends_by k x t rest (same_what t.what between) z e

    after_extends : (k : ℕ) (x : A × List Token) (z : List A × List Token)
        → after_part between (others k) x ≡ Ok z → Extends (kind.words x.0) (sep.words z.0)
    after_extends k x z e = after_extends_of k x.0 x.1 z e

    after_either : (k j : ℕ) (x : A) (p front : List Token) (t : Token) (q b c : List Token) → p ≡ front ++ t ∷ q →
        Is kind x front → Agrees sep q b (others k (q ++ b)) (others j (q ++ c))
        → (v : Bool) → same_what t.what between ≡ v
        → Agrees sep p b (cond v (others k (q ++ b) >>= before_all x) (read_of (x ∷ []) (t ∷ q ++ b)))
        (cond v (others j (q ++ c) >>= before_all x) (read_of (x ∷ []) (t ∷ q ++ c)))
    after_either k j x p front t q b c same is on true e =
        built_agrees sep sep (front ++ t ∷ []) q p b (same ∙ sym (append_assoc front (t ∷ []) q))
        (kind.words x ++ signs (between ∷ [])) (next_are kind between x front t is.words (same_is t.what between e))
        (λ xs. x ∷ xs) (next_carries kind between x is.good) (others k (q ++ b)) (others j (q ++ c))
        (tells_good P sep (q ++ b) (others k (q ++ b)) (separated_tells k (q ++ b)))
        (tells_good P sep (q ++ c) (others j (q ++ c)) (separated_tells j (q ++ c))) on
    after_either k j x p front t q b c same is on false e =
        agrees_is sep p b (x ∷ []) front (t ∷ q ++ b) (t ∷ q ++ c)
        (ap (λ r. r ++ b) same ∙ append_assoc front (t ∷ q) b) (is_one kind between x front is).words

    after_agree : (k j : ℕ) (x : A) (p front q b c : List Token) → p ≡ front ++ q → Is kind x front
        → ((r : List Token) → length (r ++ b) ≤ k → length (r ++ c) ≤ j → Agrees sep r b (others k (r ++ b))
        (others j (r ++ c)))
        → length (q ++ b) ≤ suc k → length (q ++ c) ≤ suc j
        → Agrees sep p b (after_part between (others k) (x, q ++ b)) (after_part between (others j) (x, q ++ c))
    after_agree k j x p front [] b c same is on h i =
        agrees_longer sep p b (kind.words x) (kind.words x)
        (agree_same p [] (kind.words x) (subst (AreMeasured (kind.words x))
        (sym (append-nil front) ∙ sym same ∙ sym (append-nil p)) is.words))
        (after_part between (others k) (x, b)) (after_part between (others j) (x, c))
        (after_extends_of k x b) (after_extends_of j x c)
    after_agree k j x p front (t ∷ q) b c same is on h i =
        after_either k j x p front t q b c same is (on q (omega (arith, h)) (omega (arith, i)))
        (same_what t.what between) refl

    separated_agree : (k j : ℕ) (p b c : List Token) → length (p ++ b) ≤ k → length (p ++ c) ≤ j →
        Agrees sep p b (others k (p ++ b)) (others j (p ++ c))
    separated_agree k j [] b c h i = agrees_empty sep b (others k b) (others j c)
    separated_agree zero j (t ∷ p) b c h i = absurd (let wrong : ⊥ = omega (arith, h) in wrong)
    separated_agree (suc k) zero (t ∷ p) b c h i = absurd (let wrong : ⊥ = omega (arith, i) in wrong)
    separated_agree (suc k) (suc j) (t ∷ p) b c h i =
        bind_agrees kind sep (t ∷ p) b c (after_part between (others k)) (after_part between (others j))
        (after_extends k) (after_extends j) (read (t ∷ p ++ b)) (read (t ∷ p ++ c))
        (honest.alike (t ∷ p) b c) (honest.agree (t ∷ p) b c)
        (λ x q e.
        let d = not_longer x (t ∷ p ++ b) (q ++ b) e in
        let qb = length-append q b in let pb = length-append p b in
        let qc = length-append q c in let pc = length-append p c in
        let w = tells_cut P kind (t ∷ p) b (read (t ∷ p ++ b)) (honest.tells (t ∷ p ++ b)) x q e in
        after_agree k j x (t ∷ p) w.0 q b c w.1 w.2 (λ r. separated_agree k j r b c) (omega (arith, h, d))
        (omega (arith, i, d, qb, pb, qc, pc)))

    pub separated_honest : Honest P sep (separated between read)
    separated_honest = record {
      example = some_sep;
      tells = λ ts. separated_tells (length ts) ts;
      alike = λ p b c. separated_alike (length (p ++ b)) (length (p ++ c)) p b c (omega arith) (omega arith);
      agree = λ p b c. separated_agree (length (p ++ b)) (length (p ++ c)) p b c (omega arith) (omega arith);
    }

  -- ---- with commas between and signs round them, or nothing

  module _ (left right : SignOf) where
    abbrev inside_kind : Kind (List A)
    inside_kind = behind_kind (closed_kind (separated_kind kind (fixed (Sign Comma ∷ []))) (Sign right ∷ []))
        (Sign left ∷ [])

    abbrev inside_at : List Token → Read (List A)
    inside_at = behind_tokens (Sign left ∷ []) (closed (Sign right ∷ []) (listed read))

    inside_words : (xs : List A) → inside_kind.good xs ≡ true →
        (bracketed_kind kind left right).words xs ≡ inside_kind.words xs
    inside_words [] h = absurd (let wrong = h in cc)
    inside_words (x ∷ xs) h = refl

    inside_good : (xs : List A) → inside_kind.good xs ≡ true → (bracketed_kind kind left right).good xs ≡ true
    inside_good [] h = absurd (let wrong = h in cc)
    inside_good (x ∷ xs) h = h

    inside_honest : Honest P (bracketed_kind kind left right) inside_at
    inside_honest =
        kind_honest P inside_kind (bracketed_kind kind left right) inside_at
        (behind_honest P (closed_kind (separated_kind kind (fixed (Sign Comma ∷ []))) (Sign right ∷ [])) (Sign left ∷ [])
        (closed (Sign right ∷ []) (listed read))
        (closed_honest P (separated_kind kind (fixed (Sign Comma ∷ []))) (Sign right ∷ []) (listed read)
        (separated_honest (Sign Comma))))
        (record { words = inside_words; good = inside_good })

    bracketed_by : (t : Token) (ts : List Token) (v : Bool)
        → cond v ((cond v (Ok ts) (no (t ∷ ts)) >>= tokens_at []) >>= closed (Sign right ∷ []) (listed read))
        (read_of [] (t ∷ ts))
        ≡ cond v (listed read ts >>= closed_at (Sign right ∷ [])) (read_of [] (t ∷ ts))
    bracketed_by t ts true = refl
    bracketed_by t ts false = refl

    bracketed_same : (ts : List Token) → cond (is_front (Sign left) (front ts)) (inside_at ts) (read_of [] ts)
        ≡ bracketed left right read ts
    bracketed_same [] = refl
    bracketed_same (t ∷ ts) = bracketed_by t ts (same_what t.what (Sign left))

    pub bracketed_honest : Honest P (bracketed_kind kind left right) (bracketed left right read)
    bracketed_honest =
        same_honest P (bracketed_kind kind left right)
        (λ ts. cond (is_front (Sign left) (front ts)) (inside_at ts) (read_of [] ts)) (bracketed left right read)
        bracketed_same
        (test_honest P (bracketed_kind kind left right) (is_front (Sign left)) inside_at (read_of []) inside_honest
        (none_honest P (bracketed_kind kind left right) [] (record { words = tt; good = refl }) tt))

  -- ---- a part that may stand behind a token

  module _ (what : What) where
    abbrev some_at : List Token → Read (Option A)
    some_at = shaped (λ x. Some x) (behind_tokens (what ∷ []) read)

    optional_by : (t : Token) (ts : List Token) (v : Bool)
        → cond v (((cond v (Ok ts) (no (t ∷ ts)) >>= tokens_at []) >>= read) >>= built_at (λ x. Some x))
        (read_of None (t ∷ ts))
        ≡ cond v (read ts >>= optional_of) (read_of None (t ∷ ts))
    optional_by t ts true = refl
    optional_by t ts false = refl

    optional_same : (ts : List Token) → cond (is_front what (front ts)) (some_at ts) (read_of None ts) ≡
        optional what read ts
    optional_same [] = refl
    optional_same (t ∷ ts) = optional_by t ts (same_what t.what what)

    some_honest : Honest P (optional_kind kind what) some_at
    some_honest =
        shaped_honest P (behind_kind kind (what ∷ [])) (optional_kind kind what) (behind_tokens (what ∷ []) read)
        (behind_honest P kind (what ∷ []) read honest) (λ x. Some x)
        (record { words = λ x g. refl; good = λ x g. g })

    pub optional_honest : Honest P (optional_kind kind what) (optional what read)
    optional_honest =
        same_honest P (optional_kind kind what) (λ ts. cond (is_front what (front ts)) (some_at ts) (read_of None ts))
        (optional what read) optional_same
        (test_honest P (optional_kind kind what) (is_front what) some_at (read_of None) some_honest
        (none_honest P (optional_kind kind what) None (record { words = tt; good = refl }) tt))
