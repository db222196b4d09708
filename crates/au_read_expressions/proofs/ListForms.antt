-- The laws of readers of lists.
use Rattle.std.proofs.Common.{◌≡◌, ℕ, zero, suc, ◌<◌, ◌≤◌, Bool, true, false, not, ◌&&◌, List, [], ◌∷◌, ◌++◌}
use Rattle.std.proofs.Common.{length, map, drop, Option, Some, None, Ok, refl, sym, ap, ◌∙◌, subst, arith}
use Rattle.std.proofs.Common.{inl, inr, ◌⊎◌}
use Rattle.std.specs.List.{flat_map, list_all}
use Rattle.std.proofs.lemmas.Bool.{and_parts, and_from, not-true, cond-true, cond-false}
use Rattle.std.proofs.lemmas.List.{append-nil}
use Rattle.au_base.specs.declared.limits.Limit.{Limit}
use Rattle.au_base.specs.declared.tokens.Sign.{Sign as SignOf}
use Rattle.au_base.specs.declared.tokens.Sign.TheVariants.{Comma}
use Rattle.au_base.specs.declared.tokens.Token.{Token}
use Rattle.au_base.specs.declared.tokens.What.{What}
use Rattle.au_base.specs.declared.tokens.What.TheVariants.{Sign}
use Rattle.au_base.proofs.BoolLemmas.{cond_cases}
use Rattle.au_syntax.specs.Words as words
use Rattle.au_syntax.specs.Words.{Words}
use Rattle.au_syntax.specs.Forms.{some}
use Rattle.au_read_expressions.specs.Reading.{Read, ◌>>=◌, front, is_front, begins_with, same_what, tokens_at}
use Rattle.au_read_expressions.specs.Reading.{read_of, closed_at, before_all, then_all, repeated_at, repeated}
use Rattle.au_read_expressions.specs.Reading.{after_part, separated_at, separated, listed, bracketed}
use Rattle.au_read_expressions.specs.Reading.{optional_of, optional}
use Rattle.au_read_expressions.specs.Spelling.{Begins, fixed}
use Rattle.au_read_expressions.proofs.Steps.{not_read, bind_ok}
use Rattle.au_read_expressions.proofs.Steps.{begins_is, begins_again}
use Rattle.au_read_expressions.proofs.Begins.{begins_split, begins_join, begins_shorter, tokens_take}
use Rattle.au_read_expressions.proofs.Begins.{tokens_again, front_of}
use Rattle.au_read_expressions.proofs.Forms.{Form, Sound, Finds, Reads, finds_on, sound_of}

module _ {A : Type 0} (form : Form A) where
  -- all of a list are within the limits, and one of it passes one
  abbrev pub AllFit : List A → Type 0
  AllFit [] = Unit {0}
  AllFit (x ∷ xs) = form.Fits x × AllFit xs

  abbrev pub OnePasses : List A → Limit → Type 0
  OnePasses [] l = ⊥
  OnePasses (x ∷ xs) l = form.Passes x l ⊎ OnePasses xs l

  -- one after another
  abbrev pub repeated_form : Form (List A)
  repeated_form = record { words = flat_map form.words; good = list_all form.good; Fits = AllFit; Passes = OnePasses }

  -- one or more with words between
  abbrev pub separated_form : Words → Form (List A)
  separated_form between = record {
    words = λ xs. words.separated between (map form.words xs);
    good =
        λ xs. some xs && list_all form.good xs;
    Fits = AllFit;
    Passes = OnePasses;
  }

  abbrev pub listed_form : Form (List A)
  listed_form = separated_form (words.mark Comma)

  -- with commas between and signs round them
  abbrev pub bracketed_form : SignOf → SignOf → Form (List A)
  bracketed_form left right = record {
    words = λ xs. words.listed_in left right (map form.words xs);
    good =
        list_all form.good;
    Fits = AllFit;
    Passes = OnePasses;
  }

  -- ---- one after another

  module _ (ends begins : Option What → Bool) (read : List Token → Read A) (reads : Reads form ends read)
      (starts : (x : A) (ts rest : List Token) → Begins (form.words x) ts rest → form.good x ≡ true →
      begins (front ts) ≡ true)
      (some_words : (x : A) → form.good x ≡ true → 0 < length (form.words x))
      (follows : (what : Option What) → begins what ≡ true → ends what ≡ true) where
    -- behind the list stands a token with which no further one begins
    abbrev pub ends_repeated : Option What → Bool
    ends_repeated what = not (begins what) && ends what

    pub repeated_sound : (k : ℕ) (ts rest : List Token) (xs : List A) → repeated_at begins read k ts
        ≡ Ok (xs, rest) → Sound repeated_form xs ts rest
    repeated_sound zero ts rest xs e = sound_of repeated_form [] xs ts ts rest
        (record { spelled = refl; good = refl; fits = tt }) e
    repeated_sound (suc k) ts rest xs e =
        elim (cond_cases (begins (front ts)) (read ts >>= then_all (repeated_at begins read k))
        (read_of [] ts)
        (read_of xs rest) e) [
          | inl w ↦
              let b = bind_ok (read ts) (then_all (repeated_at begins read k)) (xs, rest) w.1 in
              let c = bind_ok (repeated_at begins read k b.0.1) (before_all b.0.0) (xs, rest) b.2 in
              let s = reads.sound ts b.0.1 b.0.0 b.1 in
              let t = repeated_sound k b.0.1 c.0.1 c.0.0 c.1 in
              sound_of repeated_form (b.0.0 ∷ c.0.0) xs ts c.0.1 rest (
              record {
                spelled = begins_join (form.words b.0.0) (flat_map form.words c.0.0) ts b.0.1 c.0.1 s.spelled t.spelled;
                good = and_from (form.good b.0.0) (list_all form.good c.0.0) s.good t.good;
                fits = (s.fits, t.fits);
              }) c.2
          | inr w ↦ sound_of repeated_form [] xs ts ts rest (record { spelled = refl; good = refl; fits = tt }) w.1
        ]

    -- what stands before the list's rest doesn't continue the one before
    before_rest : (xs : List A) (ts rest : List Token) → Begins (flat_map form.words xs) ts rest →
        list_all form.good xs ≡ true → ends_repeated (front rest) ≡ true → ends (front ts) ≡ true
    before_rest [] ts rest h good ended = ap (λ r. ends (front r)) h
        ∙ (and_parts (not (begins (front rest))) (ends (front rest)) ended).1
    before_rest (x ∷ xs) ts rest h good ended =
        let s = begins_split (form.words x) (flat_map form.words xs) ts rest h in
        follows (front ts) (starts x ts s.0 s.1 (and_parts (form.good x) (list_all form.good xs) good).0)

    pub repeated_found : (xs : List A) (k : ℕ) (ts rest : List Token) → length ts ≤ k →
        Begins (flat_map form.words xs) ts rest → list_all form.good xs ≡ true
        → ends_repeated (front rest) ≡ true → Finds repeated_form xs rest (repeated_at begins read k ts)
    repeated_found [] zero ts rest short h good ended = inl (ap (λ r. read_of [] r) h)
    repeated_found [] (suc k) ts rest short h good ended =
        let none : begins (front ts) ≡ false = ap (λ r. begins (front r)) h
        ∙ not-true (begins (front rest)) (and_parts (not (begins (front rest))) (ends (front rest)) ended).0
        in
        inl (cond-false (begins (front ts)) (read ts >>= then_all (repeated_at begins read k)) (read_of [] ts)
        none ∙ ap (λ r. read_of [] r) h)
    repeated_found (x ∷ xs) zero ts rest short h good ended =
        let s = begins_split (form.words x) (flat_map form.words xs) ts rest h in
        absurd (let wrong : ⊥ = omega (
          arith,
          short,
          begins_shorter (form.words x) ts s.0 s.1,
          some_words x (and_parts (form.good x) (list_all form.good xs) good).0,
        ) in wrong)
    repeated_found (x ∷ xs) (suc k) ts rest short h good ended =
        let s = begins_split (form.words x) (flat_map form.words xs) ts rest h in
        let g = and_parts (form.good x) (list_all form.good xs) good in
        let b : begins (front ts) ≡ true = starts x ts s.0 s.1 g.0 in
        let small : length s.0 ≤ k = omega (arith, short, begins_shorter (form.words x) ts s.0 s.1, some_words x g.0) in
        subst (Finds repeated_form (x ∷ xs) rest)
        (sym (cond-true (begins (front ts)) (read ts >>= then_all (repeated_at begins read k))
        (read_of [] ts) b)) (
        finds_on form repeated_form x s.0 (read ts) (then_all (repeated_at begins read k)) (x ∷ xs) rest
        (reads.found x ts s.0 s.1 g.0 (before_rest xs s.0 rest s.2 g.1 ended))
        (λ l p. inl p)
        (finds_on repeated_form repeated_form xs rest (repeated_at begins read k s.0) (before_all x) (x ∷ xs) rest
        (repeated_found xs k s.0 rest small s.2 g.1 ended)
        (λ l p. inr p)
        (inl refl)))

    pub repeated_reads : Reads repeated_form ends_repeated (repeated begins read)
    repeated_reads = record {
      sound = λ ts. repeated_sound (length ts) ts;
      found = λ xs ts rest. repeated_found xs (length ts) ts rest (omega arith);
    }

  -- ---- with a token between

  module _ (ends : Option What → Bool) (read : List Token → Read A) (reads : Reads form ends read)
      (some_words : (x : A) → form.good x ≡ true → 0 < length (form.words x))
      (between : What) (stops : ends (Some between) ≡ true) where
    -- behind the list the token between doesn't stand
    abbrev pub ends_separated : Option What → Bool
    ends_separated what = not (is_front between what) && ends what

    -- the others, each behind a token
    abbrev pub others_words : List A → Words
    others_words xs = flat_map (λ one. fixed (between ∷ []) ++ one) (map form.words xs)

    more_sound : (x : A) (xs : List A) (ts mid next rest : List Token) → Sound form x ts mid →
        Begins (fixed (between ∷ [])) mid next
        → Sound (separated_form (fixed (between ∷ []))) xs next rest →
        Sound (separated_form (fixed (between ∷ []))) (x ∷ xs) ts rest
    more_sound x [] ts mid next rest s h t = absurd (let wrong = t.good in cc)
    more_sound x (y ∷ ys) ts mid next rest s h t =
        let others : Words = words.separated (fixed (between ∷ [])) (map form.words (y ∷ ys)) in
        record {
          spelled = begins_join (form.words x) (fixed (between ∷ []) ++ others) ts mid rest s.spelled
              (begins_join (fixed (between ∷ [])) others mid next rest h t.spelled);
          good = and_from (form.good x) (list_all form.good (y ∷ ys)) s.good
              (and_parts true (list_all form.good (y ∷ ys)) t.good).1;
          fits = (s.fits, t.fits);
        }

    one_sound : (x : A) (ts rest : List Token) → Sound form x ts rest →
        Sound (separated_form (fixed (between ∷ []))) (x ∷ []) ts rest
    one_sound x ts rest s = record {
      spelled = subst (λ ws. Begins ws ts rest) (sym (append-nil (form.words x))) s.spelled;
      good = and_from (form.good x) true s.good refl;
      fits = (s.fits, tt);
    }

    pub separated_sound : (k : ℕ) (ts rest : List Token) (xs : List A) → separated_at between read k ts
        ≡ Ok (xs, rest) → Sound (separated_form (fixed (between ∷ []))) xs ts rest
    separated_sound zero ts rest xs e = absurd (not_read _ (xs, rest) e)
    separated_sound (suc k) ts rest xs e =
        let others = separated_at between read k in
        let b = bind_ok (read ts) (after_part between others) (xs, rest) e in
        let s = reads.sound ts b.0.1 b.0.0 b.1 in
        elim (cond_cases (begins_with between b.0.1) (others (drop 1 b.0.1) >>= before_all b.0.0)
        (read_of (b.0.0 ∷ []) b.0.1) (read_of xs rest) b.2) [
          | inl w ↦
              let c = bind_ok (others (drop 1 b.0.1)) (before_all b.0.0) (xs, rest) w.1 in
              let t = separated_sound k (drop 1 b.0.1) c.0.1 c.0.0 c.1 in
              let m = begins_is between b.0.1 w.0 in
              sound_of (separated_form (fixed (between ∷ []))) (b.0.0 ∷ c.0.0) xs ts c.0.1 rest (
              more_sound b.0.0 c.0.0 ts b.0.1 (drop 1 b.0.1) c.0.1 s
              (subst (λ x. Begins (fixed (between ∷ [])) x (drop 1 b.0.1)) (sym m.2) ((m.1, tt), refl)) t)
              c.2
          | inr w ↦
              sound_of (separated_form (fixed (between ∷ []))) (b.0.0 ∷ []) xs ts b.0.1 rest
              (one_sound b.0.0 ts b.0.1 s) w.1
        ]

    ended_parts : (what : Option What) → ends_separated what ≡ true → (is_front between what ≡ false)
        × (ends what ≡ true)
    ended_parts what e = let p = and_parts (not (is_front between what)) (ends what) e
        in (not-true (is_front between what) p.0, p.1)

    drop_one : (ts rest : List Token) → Begins (fixed (between ∷ [])) ts rest → drop 1 ts ≡ rest
    drop_one [] rest h = absurd h
    drop_one (t ∷ ts) rest h = h.1

    pub separated_found : (xs : List A) (k : ℕ) (ts rest : List Token) → length ts ≤ k →
        Begins (words.separated (fixed (between ∷ [])) (map form.words xs)) ts rest
        → (some xs && list_all form.good xs) ≡ true → ends_separated (front rest) ≡ true →
        Finds (separated_form (fixed (between ∷ []))) xs rest (separated_at between read k ts)
    separated_found [] k ts rest short h good ended = absurd (let wrong = good in cc)
    separated_found (x ∷ xs) zero ts rest short h good ended =
        let s = begins_split (form.words x) (others_words xs) ts rest h in
        absurd (let wrong : ⊥ = omega (
          arith,
          short,
          begins_shorter (form.words x) ts s.0 s.1,
          some_words x (and_parts (form.good x) (list_all form.good xs) good).0,
        ) in wrong)
    separated_found (x ∷ []) (suc k) ts rest short h good ended =
        let e = ended_parts (front rest) ended in
        finds_on form (separated_form (fixed (between ∷ []))) x rest (read ts)
        (after_part between (separated_at between read k)) (x ∷ []) rest
        (reads.found x ts rest (subst (λ ws. Begins ws ts rest) (append-nil (form.words x)) h)
        (and_parts (form.good x) true good).0 e.1)
        (λ l p. inl p)
        (inl (cond-false (begins_with between rest)
        (separated_at between read k (drop 1 rest) >>= before_all x) (read_of (x ∷ []) rest) e.0))
    separated_found (x ∷ y ∷ ys) (suc k) ts rest short h good ended =
        let others = separated_at between read k in
        let s = begins_split (form.words x) (others_words (y ∷ ys)) ts rest h in
        let g = and_parts (form.good x) (list_all form.good (y ∷ ys)) good in
        let c = begins_split (fixed (between ∷ []))
        (words.separated (fixed (between ∷ [])) (map form.words (y ∷ ys))) s.0 rest s.2 in
        let is : front s.0 ≡ Some between = front_of (fixed (between ∷ [])) s.0 c.0 (omega arith) c.1 in
        let one : tokens_at (between ∷ []) s.0 ≡ Ok c.0 = tokens_again (between ∷ []) s.0 c.0 c.1 in
        let there : begins_with between s.0 ≡ true = begins_again between s.0 is in
        let behind : drop 1 s.0 ≡ c.0 = drop_one s.0 c.0 c.1 in
        let small : length c.0 ≤ k = omega (
          arith,
          short,
          begins_shorter (form.words x) ts s.0 s.1,
          some_words x g.0,
          begins_shorter (fixed (between ∷ [])) s.0 c.0 c.1,
        ) in
        finds_on form (separated_form (fixed (between ∷ []))) x s.0 (read ts) (after_part between others)
        (x ∷ y ∷ ys) rest
        (reads.found x ts s.0 s.1 g.0 (ap ends is ∙ stops))
        (λ l p. inl p)
        (subst (Finds (separated_form (fixed (between ∷ []))) (x ∷ y ∷ ys) rest)
        (sym (cond-true (begins_with between s.0) (others (drop 1 s.0) >>= before_all x)
        (read_of (x ∷ []) s.0) there)) (
        finds_on (separated_form (fixed (between ∷ []))) (separated_form (fixed (between ∷ []))) (y ∷ ys) rest
        (others (drop 1 s.0)) (before_all x) (x ∷ y ∷ ys) rest
        (subst (λ r. Finds (separated_form (fixed (between ∷ []))) (y ∷ ys) rest (others r)) (sym behind)
        (separated_found (y ∷ ys) k c.0 rest small c.2 g.1 ended))
        (λ l p. inr p)
        (inl refl)))

    pub separated_reads : Reads (separated_form (fixed (between ∷ []))) ends_separated (separated between read)
    separated_reads = record {
      sound = λ ts. separated_sound (length ts) ts;
      found = λ xs ts rest. separated_found xs (length ts) ts rest (omega arith);
    }

  -- ---- with commas between and signs round them

  module _ (ends : Option What → Bool) (read : List Token → Read A) (reads : Reads form ends read)
      (some_words : (x : A) → form.good x ≡ true → 0 < length (form.words x))
      (left right : SignOf) (stops : ends (Some (Sign Comma)) ≡ true)
      (closes : not (same_what (Sign right) (Sign Comma)) && ends (Some (Sign right)) ≡ true) where
    -- behind the list the first sign doesn't stand, where there is no part
    abbrev pub ends_bracketed : Option What → Bool
    ends_bracketed what = not (is_front (Sign left) what)

    listing : Reads (listed_form) (ends_separated ends read reads some_words (Sign Comma) stops) (listed read)
    listing = separated_reads ends read reads some_words (Sign Comma) stops

    bracketed_more : (x : A) (xs : List A) (ts inner last rest : List Token) →
        Begins (fixed (Sign left ∷ [])) ts inner → Sound listed_form (x ∷ xs) inner last
        → Begins (fixed (Sign right ∷ [])) last rest → Sound (bracketed_form left right) (x ∷ xs) ts rest
    bracketed_more x xs ts inner last rest h s k =
        let list : Words = words.listed (map form.words (x ∷ xs)) in
        record {
          spelled = begins_join (fixed (Sign left ∷ [])) (list ++ fixed (Sign right ∷ [])) ts inner rest h
              (begins_join list (fixed (Sign right ∷ [])) inner last rest s.spelled k);
          good = (and_parts true (list_all form.good (x ∷ xs)) s.good).1;
          fits = s.fits;
        }

    bracketed_some : (xs : List A) (ts inner last rest : List Token) →
        Begins (fixed (Sign left ∷ [])) ts inner → Sound listed_form xs inner last
        → Begins (fixed (Sign right ∷ [])) last rest → Sound (bracketed_form left right) xs ts rest
    bracketed_some [] ts inner last rest h s k = absurd (let wrong = s.good in cc)
    bracketed_some (x ∷ xs) ts inner last rest h s k = bracketed_more x xs ts inner last rest h s k

    pub bracketed_sound : (ts rest : List Token) (xs : List A) → bracketed left right read ts
        ≡ Ok (xs, rest) → Sound (bracketed_form left right) xs ts rest
    bracketed_sound ts rest xs e =
        elim (cond_cases (begins_with (Sign left) ts)
        (listed read (drop 1 ts) >>= closed_at (Sign right ∷ []))
        (read_of [] ts) (read_of xs rest) e) [
          | inl w ↦
              let m = begins_is (Sign left) ts w.0 in
              let b = bind_ok (listed read (drop 1 ts)) (closed_at (Sign right ∷ [])) (xs, rest) w.1 in
              let c = bind_ok (tokens_at (Sign right ∷ []) b.0.1) (read_of b.0.0) (xs, rest) b.2 in
              sound_of (bracketed_form left right) b.0.0 xs ts c.0 rest (
              bracketed_some b.0.0 ts (drop 1 ts) b.0.1 c.0
              (subst (λ x. Begins (fixed (Sign left ∷ [])) x (drop 1 ts)) (sym m.2) ((m.1, tt), refl))
              (listing.sound (drop 1 ts) b.0.1 b.0.0 b.1)
              (tokens_take (Sign right ∷ []) b.0.1 c.0 c.1)) c.2
          | inr w ↦ sound_of (bracketed_form left right) [] xs ts ts rest
              (record { spelled = refl; good = refl; fits = tt }) w.1
        ]

    open_one : (ts rest : List Token) → Begins (fixed (Sign left ∷ [])) ts rest → (drop 1 ts ≡ rest)
        × (begins_with (Sign left) ts ≡ true)
    open_one [] rest h = absurd h
    open_one (t ∷ ts) rest h = (h.1, begins_again (Sign left) (t ∷ ts) (ap (λ x. Some x) h.0.0))

    pub bracketed_found : (xs : List A) (ts rest : List Token) →
        Begins (words.listed_in left right (map form.words xs)) ts rest → list_all form.good xs ≡ true
        → ends_bracketed (front rest) ≡ true → Finds (bracketed_form left right) xs rest (bracketed left right read ts)
    bracketed_found [] ts rest h good ended =
        let none : begins_with (Sign left) ts ≡ false = ap (begins_with (Sign left)) h
        ∙ not-true (begins_with (Sign left) rest) ended in
        inl (cond-false (begins_with (Sign left) ts) (listed read (drop 1 ts) >>= closed_at (Sign right ∷ []))
        (read_of [] ts) none ∙ ap (λ r. read_of [] r) h)
    bracketed_found (x ∷ xs) ts rest h good ended =
        let list : Words = words.listed (map form.words (x ∷ xs)) in
        let o = begins_split (fixed (Sign left ∷ [])) (list ++ fixed (Sign right ∷ [])) ts rest h in
        let s = begins_split list (fixed (Sign right ∷ [])) o.0 rest o.2 in
        let one = open_one ts o.0 o.1 in
        let next : (not (is_front (Sign Comma) (front s.0)) && ends (front s.0)) ≡ true =
        ap (λ w. not (is_front (Sign Comma) w) && ends w)
        (front_of (fixed (Sign right ∷ [])) s.0 rest (omega arith) s.2) ∙ closes in
        subst (Finds (bracketed_form left right) (x ∷ xs) rest)
        (sym (cond-true (begins_with (Sign left) ts)
        (listed read (drop 1 ts) >>= closed_at (Sign right ∷ [])) (read_of [] ts) one.1)) (
        finds_on listed_form (bracketed_form left right) (x ∷ xs) s.0 (listed read (drop 1 ts))
        (closed_at (Sign right ∷ [])) (x ∷ xs) rest
        (subst (λ r. Finds listed_form (x ∷ xs) s.0 (listed read r)) (sym one.0)
        (listing.found (x ∷ xs) o.0 s.0 s.1 good next))
        (λ l p. p)
        (inl (ap (λ r. r >>= read_of (x ∷ xs)) (tokens_again (Sign right ∷ []) s.0 rest s.2))))

    pub bracketed_reads : Reads (bracketed_form left right) ends_bracketed (bracketed left right read)
    bracketed_reads = record { sound = bracketed_sound; found = bracketed_found }

  -- ---- a part that may stand behind a token

  module _ (ends : Option What → Bool) (read : List Token → Read A) (reads : Reads form ends read) (what : What) where
    abbrev pub optional_words : Option A → Words
    optional_words None = []
    optional_words (Some x) = fixed (what ∷ []) ++ form.words x

    abbrev pub optional_good : Option A → Bool
    optional_good None = true
    optional_good (Some x) = form.good x

    abbrev pub OptionalFits : Option A → Type 0
    OptionalFits None = Unit {0}
    OptionalFits (Some x) = form.Fits x

    abbrev pub OptionalPasses : Option A → Limit → Type 0
    OptionalPasses None l = ⊥
    OptionalPasses (Some x) l = form.Passes x l

    abbrev pub optional_form : Form (Option A)
    optional_form = record {
      words = optional_words;
      good = optional_good;
      Fits = OptionalFits;
      Passes =
          OptionalPasses;
    }

    abbrev pub ends_optional : Option What → Bool
    ends_optional next = not (is_front what next) && ends next

    pub optional_sound : (ts rest : List Token) (x : Option A) → optional what read ts ≡ Ok (x, rest) →
        Sound optional_form x ts rest
    optional_sound ts rest x e =
        elim (cond_cases (begins_with what ts) (read (drop 1 ts) >>= optional_of) (read_of None ts)
        (read_of x rest) e) [
          | inl w ↦
              let m = begins_is what ts w.0 in
              let b = bind_ok (read (drop 1 ts)) optional_of (x, rest) w.1 in
              let s = reads.sound (drop 1 ts) b.0.1 b.0.0 b.1 in
              sound_of optional_form (Some b.0.0) x ts b.0.1 rest (
              record {
                spelled = begins_join (fixed (what ∷ [])) (form.words b.0.0) ts (drop 1 ts) b.0.1
                    (subst (λ y. Begins (fixed (what ∷ [])) y (drop 1 ts)) (sym m.2) ((m.1, tt), refl))
                    s.spelled;
                good = s.good;
                fits = s.fits;
              }) b.2
          | inr w ↦ sound_of optional_form None x ts ts rest (record { spelled = refl; good = refl; fits = tt }) w.1
        ]

    first_one : (ts rest : List Token) → Begins (fixed (what ∷ [])) ts rest → (drop 1 ts ≡ rest)
        × (begins_with what ts ≡ true)
    first_one [] rest h = absurd h
    first_one (t ∷ ts) rest h = (h.1, begins_again what (t ∷ ts) (ap (λ x. Some x) h.0.0))

    pub optional_found : (x : Option A) (ts rest : List Token) → Begins (optional_words x) ts rest →
        optional_good x ≡ true → ends_optional (front rest) ≡ true →
        Finds optional_form x rest (optional what read ts)
    optional_found None ts rest h good ended =
        let none : begins_with what ts ≡ false = ap (begins_with what) h
        ∙ not-true (begins_with what rest)
        (and_parts (not (begins_with what rest)) (ends (front rest)) ended).0 in
        inl (cond-false (begins_with what ts) (read (drop 1 ts) >>= optional_of) (read_of None ts) none
        ∙ ap (λ r. read_of None r) h)
    optional_found (Some x) ts rest h good ended =
        let o = begins_split (fixed (what ∷ [])) (form.words x) ts rest h in
        let one = first_one ts o.0 o.1 in
        subst (Finds optional_form (Some x) rest)
        (sym (cond-true (begins_with what ts) (read (drop 1 ts) >>= optional_of) (read_of None ts) one.1)) (
        finds_on form optional_form x rest (read (drop 1 ts)) optional_of (Some x) rest
        (subst (λ r. Finds form x rest (read r)) (sym one.0)
        (reads.found x o.0 rest o.2 good
        (and_parts (not (is_front what (front rest))) (ends (front rest)) ended).1))
        (λ l p. p)
        (inl refl))

    pub optional_reads : Reads optional_form ends_optional (optional what read)
    optional_reads = record { sound = optional_sound; found = optional_found }
