-- The laws of the reader of types.
use Rattle.std.proofs.Common.{◌≡◌, ℕ, zero, suc, ◌<◌, ◌≤◌, Bool, true, false, nat_le, List, [], ◌∷◌, ◌++◌}
use Rattle.std.proofs.Common.{length, map, Option, Some, Ok, Err, refl, sym, ap, ◌∙◌, subst, arith, inl, inr}
use Rattle.std.specs.List.{list_all}
use Rattle.std.proofs.lemmas.Bool.{leb-true, leb-false, cond-true, cond-false}
use Rattle.au_base.specs.declared.limits.Limit.{Limit}
use Rattle.au_base.specs.declared.places.Pos.{Pos}
use Rattle.au_base.specs.declared.tokens.Sign.TheVariants.{LeftBracket, RightBracket, Comma, ReadBorrow, WriteBorrow}
use Rattle.au_base.specs.declared.tokens.Token.{Token}
use Rattle.au_base.specs.declared.tokens.What.{What}
use Rattle.au_base.specs.declared.tokens.What.TheVariants.{Sign, Name}
use Rattle.au_base.proofs.BoolLemmas.{cond_cases}
use Rattle.au_syntax.specs.declared.types.Access.{Access}
use Rattle.au_syntax.specs.declared.types.Access.TheVariants as access
use Rattle.au_syntax.specs.Names.{Placed}
use Rattle.au_syntax.specs.Plain.{Bytes}
use Rattle.au_syntax.specs.Sizes.{type_depth, types_depth, type_nodes}
use Rattle.au_syntax.specs.Types.{WrittenType, WrittenTypes, named, reference, no_types, types}
use Rattle.au_syntax.specs.Words.{access_sign, begun, mark, name_words, listed_in, type_words, words_of_types}
use Rattle.au_read_expressions.specs.declared.faults.Fault.TheVariants.{Syntax, Passed}
use Rattle.au_read_expressions.specs.Bounds.{Bounds, TypePasses, depth_limit, nodes_limit}
use Rattle.au_read_expressions.specs.Reading.{Read, front, name_at, read_of, no, behind_tokens, closed, pair, bracketed}
use Rattle.au_read_expressions.specs.Spelling.{Begins}
use Rattle.au_read_expressions.proofs.Steps.{not_read}
use Rattle.au_read_expressions.proofs.Begins.{front_of, begins_shorter}
use Rattle.au_read_expressions.proofs.Forms.{Form, Sound, Finds, Reads, anything, behind_form, closed_form}
use Rattle.au_read_expressions.proofs.Forms.{pair_form, closed_reads, behind_reads, pair_after, pair_behind}
use Rattle.au_read_expressions.proofs.Forms.{Shapes, Builds, shaped_sound, shaped_found, built_sound}
use Rattle.au_read_expressions.proofs.Forms.{built_found, sound_of}
use Rattle.au_read_expressions.proofs.ListForms.{AllFit, OnePasses, bracketed_form, bracketed_reads}
use Rattle.au_read_expressions.proofs.Limits.{TypeFits}
use Rattle.au_read_expressions.proofs.Single.{name_form, name_reads}
use Rattle.au_read_expressions.specs.TypeReading.{begins_type, ends_type, types_of, named_of, reference_of}
use Rattle.au_read_expressions.specs.TypeReading.{named_with, reference_with, type_by, type_with, type_within, left_at}
use Rattle.au_read_expressions.specs.TypeReading.{nodes_before, too_many, nodes_here, judged, type_at}
use Rattle.au_read_expressions.proofs.TypeNodes.{target_words, type_taken, depth_words}

-- a type within the limits
abbrev pub type_form : Bounds → Form WrittenType
type_form b = record { words = type_words; good = λ t. true; Fits = TypeFits b; Passes = TypePasses b }

-- a type that isn't deeper than the number
abbrev pub within_form : Bounds → ℕ → Form WrittenType
within_form b d = record {
  words = type_words;
  good = λ t. true;
  Fits = λ t. type_depth t ≤ d;
  Passes =
      λ t l. (d < type_depth t) × (l ≡ depth_limit b);
}

pub type_some : (t : WrittenType) → 0 < length (type_words t)
type_some (named name args) = omega arith
type_some (reference at mode target region) = omega arith

-- ---- types in a list, and as a tree holds them

abbrev list_of : WrittenTypes → List WrittenType
list_of no_types = []
list_of (types t ts) = t ∷ list_of ts

types_again : (ts : WrittenTypes) → types_of (list_of ts) ≡ ts
types_again no_types = refl
types_again (types t ts) = ap (types t) (types_again ts)

list_words : (ts : List WrittenType) → words_of_types (types_of ts) ≡ map type_words ts
list_words [] = refl
list_words (t ∷ ts) = ap (λ ws. type_words t ∷ ws) (list_words ts)

all_good : (ts : List WrittenType) → list_all (λ (t : WrittenType). true) ts ≡ true
all_good [] = refl
all_good (t ∷ ts) = all_good ts

module _ (b : Bounds) (d : ℕ) where
  list_fits : (ts : List WrittenType) → AllFit (within_form b d) ts → types_depth (types_of ts) ≤ d
  list_fits [] h = omega arith
  list_fits (t ∷ ts) h = let others = list_fits ts h.1 in omega (arith, h.0, others)

  list_passes : (ts : List WrittenType) (l : Limit) → OnePasses (within_form b d) ts l →
      (d < types_depth (types_of ts)) × (l ≡ depth_limit b)
  list_passes [] l p = absurd p
  list_passes (t ∷ ts) l p =
      elim p [
        | inl q ↦ (omega (arith, q.0), q.1)
        | inr q ↦ let r = list_passes ts l q in (omega (arith, r.0), r.1)
      ]

  -- ---- a name with its arguments, and a reference

  abbrev args_form : Form (List WrittenType)
  args_form = bracketed_form (within_form b d) LeftBracket RightBracket

  abbrev named_parts : Form (Placed Bytes × List WrittenType)
  named_parts = pair_form name_form args_form

  abbrev region_form : Form (Placed Bytes)
  region_form = closed_form name_form (Sign RightBracket ∷ [])

  abbrev target_form : Form (WrittenType × Placed Bytes)
  target_form = pair_form (within_form b d) (behind_form region_form (Sign Comma ∷ []))

  abbrev reference_parts : Access → Form (WrittenType × Placed Bytes)
  reference_parts mode = behind_form target_form (Sign (access_sign mode) ∷ Sign LeftBracket ∷ [])

  module _ (reads : Reads (within_form b d) ends_type (type_within b d)) where
    abbrev inner : List Token → Read WrittenType
    inner = type_within b d

    args_reads : Reads args_form ends_type (bracketed LeftBracket RightBracket inner)
    args_reads = bracketed_reads (within_form b d) ends_type inner reads (λ x good. type_some x) LeftBracket
        RightBracket refl refl

    named_reads : Reads named_parts ends_type (pair name_at (bracketed LeftBracket RightBracket inner))
    named_reads = pair_after name_form args_form anything ends_type name_at name_reads
        (bracketed LeftBracket RightBracket inner) args_reads (λ what. refl)

    named_shapes : Shapes named_parts (within_form b (suc d)) ends_type
        (pair name_at (bracketed LeftBracket RightBracket inner)) named_reads named_of
    named_shapes = record {
      words = λ x. ap (λ list. name_words x.0 ++ listed_in LeftBracket RightBracket list) (list_words x.1);
      good_to = λ x good. refl;
      good_from = λ x good. all_good x.1;
      fits = λ x h. let e = list_fits x.1 h.1 in omega (arith, e);
      passes = λ x l p. elim p [ inl q ↦ absurd q | inr q ↦ let r = list_passes x.1 l q in (omega (arith, r.0), r.1) ];
    }

    abbrev region_at : List Token → Read (Placed Bytes)
    region_at = closed (Sign RightBracket ∷ []) name_at

    abbrev target_at : List Token → Read (WrittenType × Placed Bytes)
    target_at = pair inner (behind_tokens (Sign Comma ∷ []) region_at)

    region_reads : Reads region_form anything region_at
    region_reads = closed_reads name_form anything name_at name_reads (Sign RightBracket) [] refl

    target_reads : Reads target_form anything target_at
    target_reads = pair_behind (within_form b d) region_form ends_type anything inner reads region_at
        region_reads (Sign Comma) [] refl

    reference_reads : (mode : Access) → Reads (reference_parts mode) anything
        (behind_tokens (Sign (access_sign mode) ∷ Sign LeftBracket ∷ []) target_at)
    reference_reads mode = behind_reads target_form anything target_at target_reads
        (Sign (access_sign mode) ∷ Sign LeftBracket ∷ [])

    reference_builds : (mode : Access)
        → Builds (reference_parts mode) (within_form b (suc d)) anything
        (behind_tokens (Sign (access_sign mode) ∷ Sign LeftBracket ∷ []) target_at) (reference_reads mode)
        (reference_of mode)
    reference_builds mode = record {
      words = λ at x. ap (λ ws. begun at (mark (access_sign mode) ++ (mark LeftBracket ++ ws)))
          (target_words (type_words x.0) x.1);
      some = λ x. omega arith;
      good_to = λ at x good. refl;
      good_from = λ at x good. refl;
      fits = λ at x h. omega (arith, h.0);
      passes = λ at x l p. elim p [ inl q ↦ (omega (arith, q.0), q.1) | inr q ↦ absurd q ];
    }

    -- ---- by the first token

    by_sound : (what : Option What) (ts rest : List Token) (t : WrittenType) → type_by inner what ts
        ≡ Ok (t, rest) → Sound (within_form b (suc d)) t ts rest
    by_sound (Some (Name bytes)) ts rest t e =
        shaped_sound named_parts (within_form b (suc d)) ends_type
        (pair name_at (bracketed LeftBracket RightBracket inner)) named_reads named_of named_shapes ts rest
        t e
    by_sound (Some (Sign ReadBorrow)) ts rest t e =
        built_sound (reference_parts access.Read) (within_form b (suc d)) anything
        (behind_tokens (Sign ReadBorrow ∷ Sign LeftBracket ∷ []) target_at) (reference_reads access.Read)
        (reference_of access.Read) (reference_builds access.Read) ts rest t e
    by_sound (Some (Sign WriteBorrow)) ts rest t e =
        built_sound (reference_parts access.Write) (within_form b (suc d)) anything
        (behind_tokens (Sign WriteBorrow ∷ Sign LeftBracket ∷ []) target_at) (reference_reads access.Write)
        (reference_of access.Write) (reference_builds access.Write) ts rest t e
    by_sound other ts rest t e = absurd (not_read _ (t, rest) e)

    named_found : (name : Placed Bytes) (list : List WrittenType) (ts rest : List Token) →
        Begins (type_words (named name (types_of list))) ts rest → ends_type (front rest) ≡ true
        → Finds (within_form b (suc d)) (named name (types_of list)) rest (named_with inner ts)
    named_found name list ts rest h ended =
        shaped_found named_parts (within_form b (suc d)) ends_type
        (pair name_at (bracketed LeftBracket RightBracket inner)) named_reads named_of named_shapes
        (name, list) ts rest h refl ended

    reference_found : (mode : Access) (at : Pos) (target : WrittenType) (region : Placed Bytes)
        (ts rest : List Token) → Begins (type_words (reference at mode target region)) ts rest
        → Finds (within_form b (suc d)) (reference at mode target region) rest (reference_with inner mode ts)
    reference_found mode at target region ts rest h =
        built_found (reference_parts mode) (within_form b (suc d)) anything
        (behind_tokens (Sign (access_sign mode) ∷ Sign LeftBracket ∷ []) target_at) (reference_reads mode)
        (reference_of mode) (reference_builds mode) at (target, region) ts rest h refl refl

    by_found : (t : WrittenType) (ts rest : List Token) → Begins (type_words t) ts rest →
        ends_type (front rest) ≡ true → Finds (within_form b (suc d)) t rest (type_by inner (front ts) ts)
    by_found (named name args) ts rest h ended =
        let first : front ts ≡ Some (Name name.name) = front_of (type_words (named name args)) ts rest
        (omega arith) h in
        let same : named name (types_of (list_of args)) ≡ named name args = ap (named name) (types_again args) in
        subst (λ w. Finds (within_form b (suc d)) (named name args) rest (type_by inner w ts)) (sym first)
        (subst (λ t. Finds (within_form b (suc d)) t rest (named_with inner ts)) same
        (named_found name (list_of args) ts rest (subst (λ t. Begins (type_words t) ts rest) (sym same) h) ended))
    by_found (reference at access.Read target region) ts rest h ended =
        let first : front ts ≡ Some (Sign ReadBorrow) =
        front_of (type_words (reference at access.Read target region)) ts rest (omega arith) h in
        subst (λ w. Finds (within_form b (suc d)) (reference at access.Read target region) rest
        (type_by inner w ts)) (sym first) (reference_found access.Read at target region ts rest h)
    by_found (reference at access.Write target region) ts rest h ended =
        let first : front ts ≡ Some (Sign WriteBorrow) =
        front_of (type_words (reference at access.Write target region)) ts rest (omega arith) h in
        subst (λ w. Finds (within_form b (suc d)) (reference at access.Write target region) rest
        (type_by inner w ts)) (sym first) (reference_found access.Write at target region ts rest h)

    with_reads : Reads (within_form b (suc d)) ends_type (type_within b (suc d))
    unfolding type_within type_with
    with_reads = record {
      sound = λ ts rest x e. by_sound (front ts) ts rest x e;
      found = λ x ts rest h good ended. by_found x ts rest h ended;
    }

-- ---- where the levels are used up

first_of_type : (t : WrittenType) → (ts rest : List Token) → Begins (type_words t) ts rest →
    begins_type (front ts) ≡ true
first_of_type (named name args) ts rest h =
    ap begins_type (front_of (type_words (named name args)) ts rest (omega arith) h)
first_of_type (reference at access.Read target region) ts rest h =
    ap begins_type (front_of (type_words (reference at access.Read target region)) ts rest (omega arith) h)
first_of_type (reference at access.Write target region) ts rest h =
    ap begins_type (front_of (type_words (reference at access.Write target region)) ts rest (omega arith) h)

some_depth : (t : WrittenType) → 0 < type_depth t
some_depth (named name args) = omega arith
some_depth (reference at mode target region) = omega arith

module _ (b : Bounds) where
  over_sound : (ts rest : List Token) (x : WrittenType) → type_within b zero ts ≡ Ok (x, rest) →
      Sound (within_form b zero) x ts rest
  unfolding type_within
  over_sound ts rest x e =
      elim (cond_cases (begins_type (front ts)) (Err (Passed (depth_limit b) (length ts))) (no ts)
      (read_of x rest) e) [
        | inl w ↦ absurd (not_read _ (x, rest) w.1)
        | inr w ↦ absurd (not_read _ (x, rest) w.1)
      ]

  over_found : (x : WrittenType) (ts rest : List Token) → Begins (type_words x) ts rest →
      Finds (within_form b zero) x rest (type_within b zero ts)
  unfolding type_within
  over_found x ts rest h =
      inr (
        depth_limit b,
        length ts,
        cond-true (begins_type (front ts)) (Err (Passed (depth_limit b) (length ts))) (no ts)
            (first_of_type x ts rest h),
        (some_depth x, refl),
      )

  pub within_reads : (d : ℕ) → Reads (within_form b d) ends_type (type_within b d)
  within_reads zero = record { sound = over_sound; found = λ x ts rest h good ended. over_found x ts rest h }
  within_reads (suc d) = with_reads b d (within_reads d)

  -- ---- the count of nodes

  -- where a type stands, so many levels as there are tokens are enough for it
  here_nodes : (x : WrittenType) (ts rest : List Token) → Begins (type_words x) ts rest
      → ends_type (front rest) ≡ true → nodes_here b ts ≡ type_nodes x
  here_nodes x ts rest h ended =
      elim ((within_reads (length ts)).found x ts rest h refl ended) [
        | inl on ↦ ap (λ r. nodes_before (left_at r) ts) on ∙ type_taken x ts rest h
        | inr p ↦
            absurd (let wrong : ⊥ = omega (arith, p.3.0, depth_words x, begins_shorter (type_words x) ts rest h)
            in wrong)
      ]

  few_sound : (n : ℕ) (ts rest : List Token) (read : Read WrittenType) (x : WrittenType) →
      too_many b n ts read ≡ Ok (x, rest) → (n ≤ b.nodes) × (read ≡ Ok (x, rest))
  few_sound n ts rest read x e =
      elim (cond_cases (nat_le n b.nodes) read (Err (Passed (nodes_limit b n) (length ts))) (read_of x rest)
      e) [
        | inl w ↦ (leb-true n b.nodes w.0, w.1)
        | inr w ↦ absurd (not_read _ (x, rest) w.1)
      ]

  judged_sound : (ts rest : List Token) (x : WrittenType) (read : Read WrittenType) → type_within b b.depth ts
      ≡ read → judged b ts read ≡ Ok (x, rest) → Sound (type_form b) x ts rest
  judged_sound ts rest x (Ok y) is e =
      let few = few_sound (nodes_before (length y.1) ts) ts rest (Ok y) x e in
      let s = (within_reads b.depth).sound ts y.1 y.0 is in
      let nodes : type_nodes y.0 ≤ b.nodes = let n = type_taken y.0 ts y.1 s.spelled in omega (arith, n, few.0) in
      sound_of (type_form b) y.0 x ts y.1 rest
      (record { spelled = s.spelled; good = refl; fits = (s.fits, nodes) }) few.1
  judged_sound ts rest x (Err (Syntax left)) is e =
      absurd (not_read _ (x, rest) (few_sound (nodes_before left ts) ts rest (Err (Syntax left)) x e).1)
  judged_sound ts rest x (Err (Passed l left)) is e =
      elim (cond_cases (nat_le (nodes_before left ts) b.nodes) (Err (Passed l left))
      (too_many b (nodes_here b ts) ts (Err (Passed l left))) (read_of x rest) e) [
        | inl w ↦ absurd (not_read _ (x, rest) w.1)
        | inr w ↦ absurd (not_read _ (x, rest) (few_sound (nodes_here b ts) ts rest (Err (Passed l left)) x w.1).1)
      ]

  -- the nodes are counted, and are too many or not
  many_found : (n : ℕ) (x : WrittenType) (ts rest : List Token) (read : Read WrittenType) → n ≡ type_nodes x →
      Finds (type_form b) x rest read → Finds (type_form b) x rest (too_many b n ts read)
  many_found n x ts rest read is here = many_by (nat_le n b.nodes) refl
    where
      many_by : (test : Bool) → nat_le n b.nodes ≡ test → Finds (type_form b) x rest (too_many b n ts read)
      many_by true e = subst (Finds (type_form b) x rest)
          (sym (cond-true (nat_le n b.nodes) read (Err (Passed (nodes_limit b n) (length ts))) e)) here
      many_by false e =
          let more : b.nodes < type_nodes x = let m = leb-false n b.nodes e in omega (arith, m, is) in
          inr (
            nodes_limit b n,
            length ts,
            cond-false (nat_le n b.nodes) read (Err (Passed (nodes_limit b n) (length ts))) e,
            inr (more, ap (nodes_limit b) is),
          )

  deep_found : (x : WrittenType) (ts rest : List Token) (l : Limit) (left : ℕ) →
      Begins (type_words x) ts rest → ends_type (front rest) ≡ true → b.depth < type_depth x → l ≡ depth_limit b
      → Finds (type_form b) x rest (judged b ts (Err (Passed l left)))
  deep_found x ts rest l left h ended deep is = deep_by (nat_le (nodes_before left ts) b.nodes) refl
    where
      told : Finds (type_form b) x rest (Err (Passed l left))
      told = inr (l, left, refl, inl (deep, is))

      counted : Read WrittenType
      counted = too_many b (nodes_here b ts) ts (Err (Passed l left))

      deep_by : (test : Bool) → nat_le (nodes_before left ts) b.nodes ≡ test →
          Finds (type_form b) x rest (judged b ts (Err (Passed l left)))
      deep_by true e = subst (Finds (type_form b) x rest)
          (sym (cond-true (nat_le (nodes_before left ts) b.nodes) (Err (Passed l left)) counted e)) told
      deep_by false e =
          subst (Finds (type_form b) x rest)
          (sym (cond-false (nat_le (nodes_before left ts) b.nodes) (Err (Passed l left)) counted e))
          (many_found (nodes_here b ts) x ts rest (Err (Passed l left)) (here_nodes x ts rest h ended) told)

  judged_found : (x : WrittenType) (ts rest : List Token) → Begins (type_words x) ts rest →
      ends_type (front rest) ≡ true → Finds (type_form b) x rest (judged b ts (type_within b b.depth ts))
  judged_found x ts rest h ended =
      elim ((within_reads b.depth).found x ts rest h refl ended) [
        | inl on ↦
            subst (λ r. Finds (type_form b) x rest (judged b ts r)) (sym on)
            (many_found (nodes_before (length rest) ts) x ts rest (read_of x rest) (type_taken x ts rest h) (inl refl))
        | inr p ↦ subst (λ r. Finds (type_form b) x rest (judged b ts r)) (sym p.2)
            (deep_found x ts rest p.0 p.1 h ended p.3.0 p.3.1)
      ]

  pub type_reads : Reads (type_form b) ends_type (type_at b)
  unfolding type_at
  type_reads = record {
    sound = λ ts rest x e. judged_sound ts rest x (type_within b b.depth ts) refl e;
    found = λ x ts rest h good ended. judged_found x ts rest h ended;
  }
