-- How far tokens go that begin a type.
use Rattle.std.proofs.Common.{◌≡◌, ℕ, suc, ◌+◌, ◌-◌, ◌≤◌, List, [], ◌∷◌, ◌++◌, length, Option, Some, None, Ok}
use Rattle.std.proofs.Common.{Err, refl, sym, ap, ◌∙◌, subst, arith, inl, inr, length-append, append_assoc}
use Rattle.std.proofs.Common.{◌⊎◌}
use Rattle.std.proofs.lemmas.List.{append-nil}
use Rattle.au_base.specs.declared.limits.Limit.{Limit}
use Rattle.au_base.specs.declared.tokens.Token.{Token}
use Rattle.au_base.specs.declared.tokens.Sign.TheVariants.{LeftBracket}
use Rattle.au_base.specs.declared.tokens.What.{What}
use Rattle.au_base.specs.declared.tokens.What.TheVariants.{Sign, Name}
use Rattle.au_syntax.specs.Types.{WrittenType}
use Rattle.au_syntax.specs.Words.{type_words, AreWords}
use Rattle.au_read_expressions.specs.declared.faults.Fault.TheVariants.{Syntax, Passed}
use Rattle.au_read_expressions.specs.Bounds.{Bounds}
use Rattle.au_read_expressions.specs.Reading.{Read}
use Rattle.au_read_expressions.specs.TypeReading.{type_within, nodes_in, nodes_before, left_at, nodes_here}
use Rattle.au_read_expressions.specs.TypeStops.{Place, begun, next, stops}
use Rattle.au_read_expressions.proofs.Begins.{begins_all, begins_shorter}
use Rattle.au_read_expressions.proofs.TypeNodes.{depth_words}
use Rattle.au_read_expressions.proofs.TypeForm.{within_reads}
use Rattle.au_read_expressions.proofs.TypeStops.{reading_stops}
use Rattle.au_parser.specs.Measures.{type_measures}
use Rattle.au_parser.proofs.Told.{Is, Whole, Begun, Tells, Alike}
use Rattle.au_parser.proofs.SameTypes.{are_words, of_type, are_measured}
use Rattle.au_parser.proofs.TypeDepths.{depths, part_kind, within_honest}
use Rattle.au_parser.proofs.TypeCounts.{nodes_front}
use Rattle.au_parser.specs.TypeFronts.{NodesOf, BeginsType}

-- ---- how far a type is read, however deep

stops_within : (place : Option Place) (ts : List Token) → stops place ts ≤ suc (length ts)
stops_within None ts = omega arith
stops_within (Some place) [] = omega arith
stops_within (Some place) (t ∷ ts) = let h = stops_within (next place t.what) ts in omega (arith, h)

-- where all of these tokens are read, so are those in front
stops_front : (place : Option Place) (us rest back : List Token) → stops place (us ++ rest) ≡ 0 →
    stops place (us ++ back) ≤ length back
stops_front None us rest back e = absurd (let wrong : ⊥ = omega (arith, e) in wrong)
stops_front (Some place) [] rest [] e = omega arith
stops_front (Some place) [] rest (t ∷ back) e = let h = stops_within (next place t.what) back in omega (arith, h)
stops_front (Some place) (u ∷ us) rest back e = stops_front (next place u.what) us rest back e

-- where a type may begin that stands in no other one: as behind a bracket, with nothing open
abbrev stepped : Option Place → What → Option Place
stepped None what = None
stepped (Some place) what = next place what

abbrev alone : Option Place → Option Place
alone None = None
alone (Some place) = Some (place.0, [])

abbrev start : Option Place
start = alone (stepped (begun [] (Name [])) (Sign LeftBracket))

module _ (b : Bounds) where
  -- a type is read whole
  whole_left : (t : WrittenType) (ts : List Token) → Is part_kind t ts → left_at (type_within b (length ts) ts) ≡ 0
  whole_left t ts is =
      let begins = begins_all (type_words t) ts (subst (λ ws. Rattle.au_syntax.specs.Words.AreWords ws ts) (of_type t)
      (are_words (type_measures t) ts is.words)) in
      let size = begins_shorter (type_words t) ts [] begins in
      let deep = depth_words t in
      elim ((within_reads b (length ts)).found t ts [] begins refl refl) [
        | inl e ↦ ap left_at e
        | inr p ↦ let less = p.3.0 in absurd (let wrong : ⊥ = omega (arith, size, deep, less) in wrong)
      ]

  far_by : (place : Option Place)
      → ((ts : List Token) → stops place ts ≡ left_at (type_within b (length ts) ts))
      → (t : WrittenType) (us rest back : List Token) → Is part_kind t (us ++ rest) →
      left_at (type_within b (length (us ++ back)) (us ++ back)) ≤ length back
  far_by place same t us rest back is =
      let h = stops_front place us rest back (same (us ++ rest) ∙ whole_left t (us ++ rest) is) in
      subst (λ k. k ≤ length back) (same (us ++ back)) h

  -- where a type begins with some tokens, reading goes no less far
  pub read_far : (t : WrittenType) (us rest back : List Token) → Is part_kind t (us ++ rest) →
      left_at (type_within b (length (us ++ back)) (us ++ back)) ≤ length back
  read_far = far_by start (reading_stops b)

-- ---- the longest front that begins a type

-- the words of a type
words_are : (t : WrittenType) (ts : List Token) → Is part_kind t ts → AreWords (type_words t) ts
words_are t ts is = subst (λ ws. AreWords ws ts) (of_type t) (are_words (type_measures t) ts is.words)

is_of : (t : WrittenType) (ts : List Token) → AreWords (type_words t) ts → Is part_kind t ts
is_of t ts h = record {
  words = are_measured (type_measures t) ts (subst (λ ws. AreWords ws ts) (sym (of_type t)) h);
  good = refl;
}

begins_of : (front rest : List Token) (t : WrittenType) → Is part_kind t (front ++ rest) → BeginsType front
begins_of front rest t is = record { tree = t; rest = rest; words = words_are t (front ++ rest) is }

-- reading stops before these tokens
abbrev Stays : List Token → Read WrittenType → Type 0
Stays back (Ok x) = x.1 ≡ back
Stays back (Err (Syntax left)) = left ≡ length back
Stays back (Err (Passed l left)) = ⊥

-- a type is read, or is too deep
abbrev Found : WrittenType → Read WrittenType → Type 0
Found t r = (r ≡ Ok (t, [])) ⊎ ((l : Limit) × (left : ℕ) × (r ≡ Err (Passed l left)))

not_syntax : (t : WrittenType) (r : Read WrittenType) (left : ℕ) → Found t r → r ≡ Err (Syntax left) → ⊥
not_syntax t r left (inl e) f = let both : ◌≡◌ {A = Read WrittenType} (Ok (t, [])) (Err (Syntax left)) = sym e ∙ f in cc
not_syntax t r left (inr p) f =
    let both : ◌≡◌ {A = Read WrittenType} (Err (Passed p.0 p.1)) (Err (Syntax left)) = sym p.2 ∙ f in cc

ends_there : (t x : WrittenType) (r : Read WrittenType) (rest : List Token) → Found t r → r ≡ Ok (x, rest) → rest ≡ []
ends_there t x r rest (inl e) f =
    let both : ◌≡◌ {A = Read WrittenType} (Ok (t, [])) (Ok (x, rest)) = sym e ∙ f in
    let pairs : ◌≡◌ {A = WrittenType × List Token} (t, []) (x, rest) = cc in
    sym (ap (λ (y : WrittenType × List Token). y.1) pairs)
ends_there t x r rest (inr p) f =
    absurd (let both : ◌≡◌ {A = Read WrittenType} (Err (Passed p.0 p.1)) (Ok (x, rest)) = sym p.2 ∙ f in cc)

-- what stays before tokens doesn't go on with the first of them
stays_ends : (t : WrittenType) (next : Token) (others rest : List Token) (r s : Read WrittenType) →
    Stays (next ∷ others) r → Alike others rest r s → Found t s → ⊥
stays_ends t next others rest (Ok x) s stays alike found =
    let size = ap length stays in
    elim alike [
      | inl short ↦ let wrong : ⊥ = omega (arith, size, short) in wrong
      | inr w ↦
          let none = ap length (ends_there t x.0 s (w.between ++ rest) found w.there) in
          let both = length-append w.between rest in
          let same = ap length w.same ∙ length-append w.between others in
          let wrong : ⊥ = omega (arith, size, none, both, same) in wrong
    ]
stays_ends t next others rest (Err (Syntax left)) s stays alike found =
    elim alike [
      | inl short ↦ let wrong : ⊥ = omega (arith, stays, short) in wrong
      | inr w ↦ not_syntax t s (w.0 + length rest) found w.2
    ]
stays_ends t next others rest (Err (Passed l left)) s stays alike found = stays

module _ (b : Bounds) (d : ℕ) where
  found_of : (t : WrittenType) (ts : List Token) → Is part_kind t ts → Found t (type_within b d ts)
  found_of t ts is =
      elim ((within_reads b d).found t ts [] (begins_all (type_words t) ts (words_are t ts is)) refl refl) [
        | inl e ↦ inl e
        | inr p ↦ inr (p.0, p.1, p.2)
      ]

  -- the tokens before which reading stops are the longest front that begins a type
  longest_of : (ts front back rest : List Token) → ts ≡ front ++ back → (t : WrittenType) → Is part_kind t (front ++ rest) →
      Stays back (type_within b d ts) → NodesOf ts (nodes_in front)
  longest_of ts front back rest same t is stays = record {
    front = front;
    back = back;
    same = same;
    begins = begins_of front rest t is;
    longest = λ next others e more.
        let p : List Token = front ++ next ∷ [] in
        let all : ts ≡ p ++ others =
        same ∙ ap (λ us. front ++ us) e ∙ sym (append_assoc front (next ∷ []) others) in
        stays_ends more.tree next others more.rest (type_within b d (p ++ others)) (type_within b d (p ++ more.rest))
        (subst (λ us. Stays (next ∷ others) (type_within b d us)) all
        (subst (λ us. Stays us (type_within b d ts)) e stays))
        ((within_honest b d).alike p others more.rest)
        (found_of more.tree (p ++ more.rest) (is_of more.tree (p ++ more.rest) more.words));
    nodes = refl;
  }

  pub whole_nodes : (ts : List Token) (x : WrittenType × List Token) → type_within b d ts ≡ Ok x →
      (h : Whole (depths b d) part_kind x.0 ts x.1) → NodesOf ts (nodes_in h.front)
  whole_nodes ts x read h = longest_of ts h.front x.1 [] h.same x.0
      (subst (Is part_kind x.0) (sym (append-nil h.front)) h.is) (subst (Stays x.1) (sym read) refl)

  pub begun_nodes : (ts : List Token) (left : ℕ) → type_within b d ts ≡ Err (Syntax left) →
      (h : Begun (depths b d) part_kind ts left) → NodesOf ts (nodes_in h.front)
  begun_nodes ts left read h = longest_of ts h.front h.back h.rest h.same h.tree h.is
      (subst (Stays h.back) (sym read) (sym h.size))

module _ (b : Bounds) where
  -- however deep a type is
  pub here_nodes : (ts : List Token) → NodesOf ts (nodes_here b ts)
  here_nodes ts = by (type_within b (length ts) ts) refl ((within_honest b (length ts)).tells ts)
    where
      by : (r : Read WrittenType) → type_within b (length ts) ts ≡ r → Tells (depths b (length ts)) part_kind ts r →
          NodesOf ts (nodes_here b ts)
      by (Ok x) read h = subst (NodesOf ts)
          (sym (ap (λ r. nodes_before (left_at r) ts) read
          ∙ ap (nodes_before (length x.1)) h.same ∙ nodes_front h.front x.1 (length x.1) refl))
          (whole_nodes b (length ts) ts x read h)
      by (Err (Syntax left)) read h = subst (NodesOf ts)
          (sym (ap (λ r. nodes_before (left_at r) ts) read
          ∙ ap (nodes_before left) h.same ∙ nodes_front h.front h.back left h.size))
          (begun_nodes b (length ts) ts left read h)
      by (Err (Passed l left)) read h =
          let is = subst (Is part_kind h.tree) (sym (append_assoc h.front (h.last ∷ []) h.rest)) h.is in
          let far = read_far b h.tree (h.front ++ h.last ∷ []) h.rest h.back is in
          let here = subst (λ us. left_at (type_within b (length us) us) ≤ length h.back)
          (append_assoc h.front (h.last ∷ []) h.back ∙ sym h.same) far in
          let at : left_at (type_within b (length ts) ts) ≡ left = ap left_at read in
          let size = h.told.1 in
          absurd (let wrong : ⊥ = omega (arith, here, at, size) in wrong)
