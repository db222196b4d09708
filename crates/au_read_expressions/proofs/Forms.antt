-- The two laws of a reader: what is read is spelled so, and what is spelled so is read. They hold of a
-- reader that is composed of others where they hold of those.
use Rattle.std.proofs.Common.{◌≡◌, ℕ, ◌<◌, Bool, true, ◌&&◌, List, ◌∷◌, ◌++◌, length, Option, Some, Ok, Err}
use Rattle.std.proofs.Common.{refl, sym, ap, ◌∙◌, subst, arith, inl, inr, ◌⊎◌}
use Rattle.std.proofs.lemmas.Bool.{and_parts, and_from}
use Rattle.au_base.specs.declared.limits.Limit.{Limit}
use Rattle.au_base.specs.declared.places.Pos.{Pos}
use Rattle.au_base.specs.declared.tokens.Token.{Token}
use Rattle.au_base.specs.declared.tokens.What.{What}
use Rattle.au_syntax.specs.Words.{Words, begun}
use Rattle.au_read_expressions.specs.declared.faults.Fault.TheVariants.{Passed}
use Rattle.au_read_expressions.specs.Reading.{Read, ◌>>=◌, front, place_of, tokens_at, read_of, behind_tokens}
use Rattle.au_read_expressions.specs.Reading.{closed_at, closed, joined_with, joined_at, pair, built_at}
use Rattle.au_read_expressions.specs.Reading.{shaped, built}
use Rattle.au_read_expressions.specs.Spelling.{Begins, fixed}
use Rattle.au_read_expressions.proofs.Steps.{given, ok_same, bind_ok}
use Rattle.au_read_expressions.proofs.Begins.{begins_split, begins_join, begun_split, begun_join, tokens_take}
use Rattle.au_read_expressions.proofs.Begins.{tokens_again, front_of}

-- What is said of a kind of tree: its words, whether it has its form, that it is within the limits, and
-- which limits it passes.
pub record Form (A : Type 0) : Type 1 where
  pub words : A → Words
  pub good : A → Bool
  pub Fits : A → Type 0
  pub Passes : A → Limit → Type 0

-- tokens begin with a tree that has its form and is within the limits
pub record Sound {A : Type 0} (form : Form A) (x : A) (ts rest : List Token) : Type 0 where
  pub spelled : Begins (form.words x) ts rest
  pub good : form.good x ≡ true
  pub fits : form.Fits x

-- the tree is read, or a limit that it passes is told
abbrev pub Finds : {A : Type 0} → Form A → A → List Token → Read A → Type 0
Finds form x rest read =
    (read ≡ Ok (x, rest)) ⊎ ((l : Limit) × (left : ℕ) × (read ≡ Err (Passed l left)) × form.Passes x l)

-- A reader reads trees of this form. Behind a tree stands a token that doesn't continue it.
pub record Reads {A : Type 0} (form : Form A) (ends : Option What → Bool) (read : List Token → Read A) : Type 0 where
  pub sound : (ts rest : List Token) (x : A) → read ts ≡ Ok (x, rest) → Sound form x ts rest
  pub found : (x : A) (ts rest : List Token) → Begins (form.words x) ts rest → form.good x ≡ true →
      ends (front rest) ≡ true → Finds form x rest (read ts)

-- whatever follows
abbrev pub anything : Option What → Bool
anything what = true

-- a tree that passes no limit and always has its form
abbrev pub light : {A : Type 0} → (A → Words) → Form A
light words = record { words = words; good = λ x. true; Fits = λ x. Unit {0}; Passes = λ x l. ⊥ }

-- what is found, gone on from: the continuation reads on, or a limit is told
pub finds_on : {A B : Type 0} (form : Form A) (other : Form B) (x : A) (mid : List Token) (read : Read A)
    (f : A × List Token → Read B) (y : B) (rest : List Token)
    → Finds form x mid read → ((l : Limit) → form.Passes x l → other.Passes y l) →
    Finds other y rest (f (x, mid)) → Finds other y rest (read >>= f)
finds_on form other x mid read f y rest here passes there =
    elim here [
      | inl is ↦
          elim there [
            | inl on ↦ inl (ap (λ r. r >>= f) is ∙ on)
            | inr p ↦ inr (p.0, p.1, ap (λ r. r >>= f) is ∙ p.2, p.3)
          ]
      | inr p ↦ inr (p.0, p.1, ap (λ r. r >>= f) p.2, passes p.0 p.3)
    ]

-- what is read of which tokens
pub sound_of : {A : Type 0} (form : Form A) (x y : A) (ts rest last : List Token) → Sound form x ts rest →
    read_of x rest ≡ read_of y last → Sound form y ts last
sound_of form x y ts rest last s e =
    let same : (x, rest) ≡ (y, last) = ok_same (x, rest) (y, last) e in
    subst (λ (p : _ × List Token). Sound form p.0 ts p.1) same s

-- ---- tokens before and behind

module _ {A : Type 0} (form : Form A) where
  abbrev pub behind_form : List What → Form A
  behind_form whats = record {
    words = λ x. fixed whats ++ form.words x;
    good = form.good;
    Fits =
        form.Fits;
    Passes = form.Passes;
  }

  abbrev pub closed_form : List What → Form A
  closed_form whats = record {
    words = λ x. form.words x ++ fixed whats;
    good = form.good;
    Fits =
        form.Fits;
    Passes = form.Passes;
  }

  module _ (ends : Option What → Bool) (read : List Token → Read A) (reads : Reads form ends read) where
    pub behind_reads : (whats : List What) → Reads (behind_form whats) ends (behind_tokens whats read)
    behind_reads whats = record {
      sound = λ ts rest x e.
          let b = bind_ok (tokens_at whats ts) read (x, rest) e in
          let s = reads.sound b.0 rest x b.2 in
          record {
            spelled = begins_join (fixed whats) (form.words x) ts b.0 rest
                (tokens_take whats ts b.0 b.1) s.spelled;
            good = s.good;
            fits = s.fits;
          };
      found = λ x ts rest h good follows.
          let s = begins_split (fixed whats) (form.words x) ts rest h in
          let t : tokens_at whats ts ≡ Ok s.0 = tokens_again whats ts s.0 s.1 in
          elim (reads.found x s.0 rest s.2 good follows) [
            | inl on ↦ inl (ap (λ r. r >>= read) t ∙ on)
            | inr p ↦ inr (p.0, p.1, ap (λ r. r >>= read) t ∙ p.2, p.3)
          ];
    }

    pub closed_reads : (what : What) (whats : List What) → ends (Some what) ≡ true →
        Reads (closed_form (what ∷ whats)) anything (closed (what ∷ whats) read)
    closed_reads what whats stops = record {
      sound = λ ts rest x e.
          let b = bind_ok (read ts) (closed_at (what ∷ whats)) (x, rest) e in
          let s = reads.sound ts b.0.1 b.0.0 b.1 in
          let c = bind_ok (tokens_at (what ∷ whats) b.0.1) (read_of b.0.0) (x, rest) b.2 in
          sound_of (closed_form (what ∷ whats)) b.0.0 x ts c.0 rest (
          record {
            spelled = begins_join (form.words b.0.0) (fixed (what ∷ whats)) ts b.0.1 c.0 s.spelled
                (tokens_take (what ∷ whats) b.0.1 c.0 c.1);
            good = s.good;
            fits = s.fits;
          }) c.2;
      found = λ x ts rest h good follows.
          let s = begins_split (form.words x) (fixed (what ∷ whats)) ts rest h in
          let next : ends (front s.0) ≡ true =
          ap ends (front_of (fixed (what ∷ whats)) s.0 rest (omega arith) s.2) ∙ stops in
          finds_on form (closed_form (what ∷ whats)) x s.0 (read ts) (closed_at (what ∷ whats)) x rest
          (reads.found x ts s.0 s.1 good next)
          (λ l p. p)
          (inl (ap (λ r. r >>= read_of x) (tokens_again (what ∷ whats) s.0 rest s.2)));
    }

-- ---- one behind another

module _ {A B : Type 0} (form : Form A) (other : Form B) where
  abbrev pub pair_form : Form (A × B)
  pair_form = record {
    words = λ x. form.words x.0 ++ other.words x.1;
    good = λ x. form.good x.0 && other.good x.1;
    Fits = λ x. form.Fits x.0 × other.Fits x.1;
    Passes = λ x l. form.Passes x.0 l ⊎ other.Passes x.1 l;
  }

  module _ (ends next : Option What → Bool) (read : List Token → Read A) (reads : Reads form ends read)
      (after : List Token → Read B) (follows : Reads other next after) where
    -- the second begins with a token that doesn't continue the first
    pub pair_reads : ((y : B) (ts rest : List Token) → Begins (other.words y) ts rest → other.good y ≡ true →
        next (front rest) ≡ true → ends (front ts) ≡ true)
        → Reads pair_form next (pair read after)
    pair_reads stops = record {
      sound = λ ts rest x e.
          let b = bind_ok (read ts) (joined_at after) (x, rest) e in
          let s = reads.sound ts b.0.1 b.0.0 b.1 in
          let c = bind_ok (after b.0.1) (joined_with b.0.0) (x, rest) b.2 in
          let t = follows.sound b.0.1 c.0.1 c.0.0 c.1 in
          sound_of pair_form (b.0.0, c.0.0) x ts c.0.1 rest (
          record {
            spelled = begins_join (form.words b.0.0) (other.words c.0.0) ts b.0.1 c.0.1 s.spelled t.spelled;
            good = and_from (form.good b.0.0) (other.good c.0.0) s.good t.good;
            fits = (s.fits, t.fits);
          }) c.2;
      found = λ x ts rest h good ended.
          let s = begins_split (form.words x.0) (other.words x.1) ts rest h in
          let g = and_parts (form.good x.0) (other.good x.1) good in
          finds_on form pair_form x.0 s.0 (read ts) (joined_at after) x rest
          (reads.found x.0 ts s.0 s.1 g.0 (stops x.1 s.0 rest s.2 g.1 ended))
          (λ l p. inl p)
          (finds_on other pair_form x.1 rest (after s.0) (joined_with x.0) x rest
          (follows.found x.1 s.0 rest s.2 g.1 ended)
          (λ l p. inr p)
          (inl refl));
    }

    -- the first is never continued
    pub pair_after : ((what : Option What) → ends what ≡ true) → Reads pair_form next (pair read after)
    pair_after always = pair_reads (λ y ts rest h good ended. always (front ts))

-- the second begins with a fixed token
module _ {A B : Type 0} (form : Form A) (other : Form B) (ends next : Option What → Bool)
    (read : List Token → Read A) (reads : Reads form ends read) (after : List Token → Read B)
    (follows : Reads other next after) where
  pub pair_behind : (what : What) (whats : List What) → ends (Some what) ≡ true
      → Reads (pair_form form (behind_form other (what ∷ whats))) next (pair read (behind_tokens (what ∷ whats) after))
  pair_behind what whats stops =
      pair_reads form (behind_form other (what ∷ whats)) ends next read reads
      (behind_tokens (what ∷ whats) after) (behind_reads other next after follows (what ∷ whats))
      (λ y ts rest h good ended.
      let s = begins_split (fixed (what ∷ whats)) (other.words y) ts rest h in
      ap ends (front_of (fixed (what ∷ whats)) ts s.0 (omega arith) s.1) ∙ stops)

-- ---- trees built of what is read

module _ {A B : Type 0} (form : Form A) (other : Form B) (ends : Option What → Bool)
    (read : List Token → Read A) (reads : Reads form ends read) where
  -- a tree is built of another with the same words
  pub record Shapes (build : A → B) : Type 0 where
    pub words : (x : A) → other.words (build x) ≡ form.words x
    pub good_to : (x : A) → form.good x ≡ true → other.good (build x) ≡ true
    pub good_from : (x : A) → other.good (build x) ≡ true → form.good x ≡ true
    pub fits : (x : A) → form.Fits x → other.Fits (build x)
    pub passes : (x : A) (l : Limit) → form.Passes x l → other.Passes (build x) l

  module _ (build : A → B) (shapes : Shapes build) where
    pub shaped_sound : (ts rest : List Token) (y : B) → shaped build read ts ≡ Ok (y, rest) → Sound other y ts rest
    shaped_sound ts rest y e =
        let b = bind_ok (read ts) (built_at build) (y, rest) e in
        let s = reads.sound ts b.0.1 b.0.0 b.1 in
        sound_of other (build b.0.0) y ts b.0.1 rest (
        record {
          spelled = subst (λ ws. Begins ws ts b.0.1) (sym (shapes.words b.0.0)) s.spelled;
          good = shapes.good_to b.0.0 s.good;
          fits = shapes.fits b.0.0 s.fits;
        }) b.2

    pub shaped_found : (x : A) (ts rest : List Token) → Begins (other.words (build x)) ts rest →
        other.good (build x) ≡ true → ends (front rest) ≡ true →
        Finds other (build x) rest (shaped build read ts)
    shaped_found x ts rest h good ended =
        finds_on form other x rest (read ts) (built_at build) (build x) rest
        (reads.found x ts rest (subst (λ ws. Begins ws ts rest) (shapes.words x) h) (shapes.good_from x good) ended)
        (shapes.passes x)
        (inl refl)

  -- every tree of the form is built so
  pub shaped_reads : (build : A → B) → Shapes build → (back : B → A) → ((y : B) → build (back y) ≡ y) →
      Reads other ends (shaped build read)
  shaped_reads build shapes back same = record {
    sound = shaped_sound build shapes;
    found = λ y. subst (λ z. (ts rest : List Token) → Begins (other.words z) ts rest → other.good z ≡ true →
        ends (front rest) ≡ true → Finds other z rest (shaped build read ts)) (same y)
        (shaped_found build shapes (back y));
  }

  -- a tree is built of its place and another with the same words
  pub record Builds (build : Pos → A → B) : Type 0 where
    pub words : (at : Pos) (x : A) → other.words (build at x) ≡ begun at (form.words x)
    pub some : (x : A) → 0 < length (form.words x)
    pub good_to : (at : Pos) (x : A) → form.good x ≡ true → other.good (build at x) ≡ true
    pub good_from : (at : Pos) (x : A) → other.good (build at x) ≡ true → form.good x ≡ true
    pub fits : (at : Pos) (x : A) → form.Fits x → other.Fits (build at x)
    pub passes : (at : Pos) (x : A) (l : Limit) → form.Passes x l → other.Passes (build at x) l

  module _ (build : Pos → A → B) (builds : Builds build) where
    pub built_sound : (ts rest : List Token) (y : B) → built build read ts ≡ Ok (y, rest) → Sound other y ts rest
    built_sound ts rest y e =
        let at : Pos = place_of ts in
        let b = bind_ok (read ts) (built_at (build at)) (y, rest) e in
        let s = reads.sound ts b.0.1 b.0.0 b.1 in
        sound_of other (build at b.0.0) y ts b.0.1 rest (
        record {
          spelled = subst (λ ws. Begins ws ts b.0.1) (sym (builds.words at b.0.0))
              (begun_join (form.words b.0.0) ts b.0.1 s.spelled);
          good = builds.good_to at b.0.0 s.good;
          fits = builds.fits at b.0.0 s.fits;
        }) b.2

    pub built_found : (at : Pos) (x : A) (ts rest : List Token) → Begins (other.words (build at x)) ts rest →
        other.good (build at x) ≡ true → ends (front rest) ≡ true
        → Finds other (build at x) rest (built build read ts)
    built_found at x ts rest h good ended =
        let b = begun_split at (form.words x) ts rest (builds.some x)
        (subst (λ ws. Begins ws ts rest) (builds.words at x) h) in
        let here : build (place_of ts) x ≡ build at x = ap (λ p. build p x) b.0 in
        finds_on form other x rest (read ts) (built_at (build (place_of ts))) (build at x) rest
        (reads.found x ts rest b.1 (builds.good_from at x good) ended)
        (builds.passes at x)
        (inl (ap (λ y. given (y, rest)) here))
