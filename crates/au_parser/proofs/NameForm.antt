-- The laws of the reader of a module's name, which keeps the limit of its bytes.
use Rattle.std.proofs.Common.{◌≡◌, ℕ, zero, suc, ◌+◌, ◌<◌, ◌≤◌, nat_le, Bool, true, false, not, cond, List}
use Rattle.std.proofs.Common.{[], ◌∷◌, ◌++◌, length, drop, Option, Ok, Err, refl, sym, ap, subst, arith, inl}
use Rattle.std.proofs.Common.{inr, ◌⊎◌, length-append}
use Rattle.std.specs.List.{flat_map}
use Rattle.std.proofs.lemmas.Bool.{leb-true, leb-false, not-true, cond-true, cond-false}
use Rattle.std.proofs.lemmas.List.{append-nil}
use Rattle.au_base.specs.declared.tokens.Sign.TheVariants.{Dot}
use Rattle.au_base.specs.declared.tokens.Token.{Token}
use Rattle.au_base.specs.declared.tokens.What.{What}
use Rattle.au_base.specs.declared.tokens.What.TheVariants.{Sign}
use Rattle.au_base.proofs.BoolLemmas.{cond_cases}
use Rattle.au_syntax.specs.Names.{Placed}
use Rattle.au_syntax.specs.Plain.{Bytes}
use Rattle.au_syntax.specs.Forms.{some}
use Rattle.au_syntax.specs.Sizes.{joined}
use Rattle.au_syntax.specs.Words.{name_words, dotted}
use Rattle.au_read_expressions.specs.declared.faults.Fault.TheVariants.{Passed}
use Rattle.au_read_expressions.specs.Bounds.{Bounds, bytes_limit}
use Rattle.au_read_expressions.specs.Reading.{Read, ◌>>=◌, front, is_front, begins_with, read_of, name_at, before_all}
use Rattle.au_read_expressions.specs.Spelling.{Begins, fixed}
use Rattle.au_read_expressions.proofs.Steps.{not_read, bind_ok}
use Rattle.au_read_expressions.proofs.Steps.{begins_is, begins_again}
use Rattle.au_read_expressions.proofs.Begins.{begins_split, begins_join, begins_shorter, front_of}
use Rattle.au_read_expressions.proofs.Forms.{Form, Sound, Finds, Reads, finds_on, sound_of}
use Rattle.au_read_expressions.proofs.Single.{name_form, name_reads}
use Rattle.au_parser.specs.ModuleReading.{name_step, names_within, module_name_at}
use Rattle.au_parser.proofs.Known.{told_reads}

-- whether it is at most that, and what follows
le_by : (a c : ℕ) (v : Bool) → nat_le a c ≡ v → ((nat_le a c ≡ true) × (a ≤ c)) ⊎ ((nat_le a c ≡ false) × (c < a))
le_by a c true e = inl (e, leb-true a c e)
le_by a c false e = inr (e, leb-false a c e)

le_or : (a c : ℕ) → ((nat_le a c ≡ true) × (a ≤ c)) ⊎ ((nat_le a c ≡ false) × (c < a))
le_or a c = le_by a c (nat_le a c) refl

-- how many bytes a name has
joined_one : (x : Placed Bytes) → length (joined (x ∷ [])) ≡ length x.name
joined_one x = ap length (append-nil x.name)

joined_more : (x y : Placed Bytes) (ys : List (Placed Bytes)) → length (joined (x ∷ y ∷ ys))
    ≡ length x.name + (1 + length (joined (y ∷ ys)))
joined_more x y ys =
    let both : length (x.name ++ 46 ∷ joined (y ∷ ys)) ≡ length x.name + length (46 ∷ joined (y ∷ ys)) =
    length-append x.name (46 ∷ joined (y ∷ ys)) in
    omega (arith, both)

joined_least : (x : Placed Bytes) (xs : List (Placed Bytes)) → length x.name ≤ length (joined (x ∷ xs))
joined_least x xs =
    let both = length-append x.name (flat_map (λ (one : Placed Bytes). 46 ∷ one.name) xs) in
    omega (arith, both)

-- a name of a module, where so many bytes stood before
abbrev pub names_form_with : Bounds → ℕ → Form (List (Placed Bytes))
names_form_with b used = record {
  words = dotted;
  good = some;
  Fits = λ names. used + length (joined names) ≤ b.bytes;
  Passes = λ names l. (b.bytes < used + length (joined names)) × (l ≡ bytes_limit b);
}

abbrev pub names_form : Bounds → Form (List (Placed Bytes))
names_form b = record {
  words = dotted;
  good = some;
  Fits = λ names. length (joined names) ≤ b.bytes;
  Passes = λ names l. (b.bytes < length (joined names)) × (l ≡ bytes_limit b);
}

abbrev pub ends_names : Option What → Bool
ends_names what = not (is_front (Sign Dot) what)

module _ (b : Bounds) where
  one_sound : (used : ℕ) (x : Placed Bytes) (ts rest : List Token) → Begins (name_words x) ts rest →
      used + length x.name ≤ b.bytes → Sound (names_form_with b used) (x ∷ []) ts rest
  one_sound used x ts rest h small = record {
    spelled = subst (λ ws. Begins ws ts rest) (sym (append-nil (name_words x))) h;
    good = refl;
    fits = omega (arith, small, joined_one x);
  }

  more_sound : (used : ℕ) (x : Placed Bytes) (xs : List (Placed Bytes)) (ts mid next rest : List Token) →
      Begins (name_words x) ts mid → Begins (fixed (Sign Dot ∷ [])) mid next
      → Sound (names_form_with b (used + length x.name + 1)) xs next rest →
      Sound (names_form_with b used) (x ∷ xs) ts rest
  more_sound used x [] ts mid next rest h k s = absurd (let wrong = s.good in cc)
  more_sound used x (y ∷ ys) ts mid next rest h k s =
      record {
        spelled = begins_join (name_words x) (fixed (Sign Dot ∷ []) ++ dotted (y ∷ ys)) ts mid rest h
            (begins_join (fixed (Sign Dot ∷ [])) (dotted (y ∷ ys)) mid next rest k s.spelled);
        good = refl;
        fits = (let small = s.fits in omega (arith, small, joined_more x y ys));
      }

  names_sound : (k used : ℕ) (ts rest : List Token) (xs : List (Placed Bytes)) → names_within b k used ts
      ≡ Ok (xs, rest) → Sound (names_form_with b used) xs ts rest
  names_sound zero used ts rest xs e = absurd (not_read _ (xs, rest) e)
  names_sound (suc k) used ts rest xs e =
      let others = names_within b k in
      let o = bind_ok (name_at ts) (name_step b others used) (xs, rest) e in
      let x : Placed Bytes = o.0.0 in
      let mid : List Token = o.0.1 in
      let s = name_reads.sound ts mid x o.1 in
      let bytes : ℕ = used + length x.name in
      elim (cond_cases (nat_le bytes b.bytes)
      (cond (begins_with (Sign Dot) mid) (others (bytes + 1) (drop 1 mid) >>= before_all x)
      (read_of (x ∷ []) mid)) (Err (Passed (bytes_limit b) (length mid))) (read_of xs rest) o.2) [
        | inl w ↦
            let small : bytes ≤ b.bytes = leb-true bytes b.bytes w.0 in
            elim (cond_cases (begins_with (Sign Dot) mid) (others (bytes + 1) (drop 1 mid) >>= before_all x)
            (read_of (x ∷ []) mid) (read_of xs rest) w.1) [
              | inl v ↦
                  let c = bind_ok (others (bytes + 1) (drop 1 mid)) (before_all x) (xs, rest) v.1 in
                  let t = names_sound k (bytes + 1) (drop 1 mid) c.0.1 c.0.0 c.1 in
                  let m = begins_is (Sign Dot) mid v.0 in
                  sound_of (names_form_with b used) (x ∷ c.0.0) xs ts c.0.1 rest (
                  more_sound used x c.0.0 ts mid (drop 1 mid) c.0.1 s.spelled
                  (subst (λ y. Begins (fixed (Sign Dot ∷ [])) y (drop 1 mid)) (sym m.2) ((m.1, tt), refl))
                  t) c.2
              | inr v ↦ sound_of (names_form_with b used) (x ∷ []) xs ts mid rest
                  (one_sound used x ts mid s.spelled small) v.1
            ]
        | inr w ↦ absurd (not_read _ (xs, rest) w.1)
      ]

  -- what follows a name and the test of its bytes
  step_found : (others : ℕ → List Token → Read (List (Placed Bytes))) (used : ℕ) (x : Placed Bytes)
      (xs : List (Placed Bytes)) (mid rest : List Token)
      → (used + length x.name ≤ b.bytes → Finds (names_form_with b used) (x ∷ xs) rest
      (cond (begins_with (Sign Dot) mid) (others (used + length x.name + 1) (drop 1 mid) >>= before_all x)
      (read_of (x ∷ []) mid)))
      → Finds (names_form_with b used) (x ∷ xs) rest (name_step b others used (x, mid))
  step_found others used x xs mid rest on =
      let bytes : ℕ = used + length x.name in
      let further : Read (List (Placed Bytes)) =
      cond (begins_with (Sign Dot) mid) (others (bytes + 1) (drop 1 mid) >>= before_all x)
      (read_of (x ∷ []) mid) in
      elim (le_or bytes b.bytes) [
        | inl w ↦ subst (Finds (names_form_with b used) (x ∷ xs) rest)
            (sym (cond-true (nat_le bytes b.bytes) further (Err (Passed (bytes_limit b) (length mid))) w.0))
            (on w.1)
        | inr w ↦ inr (
          bytes_limit b,
          length mid,
          cond-false (nat_le bytes b.bytes) further
              (Err (Passed (bytes_limit b) (length mid))) w.0,
          (omega (arith, w.1, joined_least x xs), refl),
        )
      ]

  drop_one : (ts rest : List Token) → Begins (fixed (Sign Dot ∷ [])) ts rest → drop 1 ts ≡ rest
  drop_one [] rest h = absurd h
  drop_one (t ∷ ts) rest h = h.1

  names_found : (xs : List (Placed Bytes)) (k used : ℕ) (ts rest : List Token) → length ts ≤ k →
      Begins (dotted xs) ts rest → some xs ≡ true → ends_names (front rest) ≡ true
      → Finds (names_form_with b used) xs rest (names_within b k used ts)
  names_found [] k used ts rest short h good ended = absurd (let wrong = good in cc)
  names_found (x ∷ xs) zero used ts rest short h good ended =
      absurd (let s = begins_shorter (dotted (x ∷ xs)) ts rest h in let wrong : ⊥ = omega (arith, short, s) in wrong)
  names_found (x ∷ []) (suc k) used ts rest short h good ended =
      let others = names_within b k in
      finds_on name_form (names_form_with b used) x rest (name_at ts) (name_step b others used) (x ∷ []) rest
      (name_reads.found x ts rest (subst (λ ws. Begins ws ts rest) (append-nil (name_words x)) h) refl refl)
      (λ l p. absurd p)
      (step_found others used x [] rest rest
      (λ small. inl (cond-false (begins_with (Sign Dot) rest)
      (others (used + length x.name + 1) (drop 1 rest) >>= before_all x) (read_of (x ∷ []) rest)
      (not-true (begins_with (Sign Dot) rest) ended))))
  names_found (x ∷ y ∷ ys) (suc k) used ts rest short h good ended =
      let others = names_within b k in
      let s = begins_split (name_words x) (fixed (Sign Dot ∷ []) ++ dotted (y ∷ ys)) ts rest h in
      let c = begins_split (fixed (Sign Dot ∷ [])) (dotted (y ∷ ys)) s.0 rest s.2 in
      let there : begins_with (Sign Dot) s.0 ≡ true =
      begins_again (Sign Dot) s.0 (front_of (fixed (Sign Dot ∷ [])) s.0 c.0 (omega arith) c.1) in
      let behind : drop 1 s.0 ≡ c.0 = drop_one s.0 c.0 c.1 in
      let small : length c.0 ≤ k = omega (
        arith,
        short,
        begins_shorter (name_words x) ts s.0 s.1,
        begins_shorter (fixed (Sign Dot ∷ [])) s.0 c.0 c.1,
      ) in
      let bytes : ℕ = used + length x.name in
      finds_on name_form (names_form_with b used) x s.0 (name_at ts) (name_step b others used) (x ∷ y ∷ ys) rest
      (name_reads.found x ts s.0 s.1 refl refl)
      (λ l p. absurd p)
      (step_found others used x (y ∷ ys) s.0 rest (λ fits.
      subst (Finds (names_form_with b used) (x ∷ y ∷ ys) rest)
      (sym (cond-true (begins_with (Sign Dot) s.0) (others (bytes + 1) (drop 1 s.0) >>= before_all x)
      (read_of (x ∷ []) s.0) there)) (
      finds_on (names_form_with b (bytes + 1)) (names_form_with b used) (y ∷ ys) rest
      (others (bytes + 1) (drop 1 s.0)) (before_all x) (x ∷ y ∷ ys) rest
      (subst (λ r. Finds (names_form_with b (bytes + 1)) (y ∷ ys) rest (others (bytes + 1) r)) (sym behind)
      (names_found (y ∷ ys) k (bytes + 1) c.0 rest small c.2 refl ended))
      (λ l p. (omega (arith, p.0, joined_more x y ys), p.1))
      (inl refl))))

  names_with_reads : Reads (names_form_with b 0) ends_names (module_name_at b)
  unfolding module_name_at
  names_with_reads = record {
    sound = λ ts rest xs e. names_sound (length ts) 0 ts rest xs e;
    found = λ xs ts rest h good ended. names_found xs (length ts) 0 ts rest (omega arith) h good ended;
  }

  pub names_reads : Reads (names_form b) ends_names (module_name_at b)
  names_reads =
      told_reads (names_form_with b 0) (names_form b).Fits (names_form b).Passes (λ names h. omega (arith, h))
      (λ names l p. (omega (arith, p.0), p.1)) ends_names (module_name_at b) names_with_reads
