-- The tables that are kept while a text is read hold what its marks say, of which the last stands first.
use Rattle.std.proofs.Common.{◌≡◌, ℕ, zero, suc, ◌+◌, ◌<◌, ◌≤◌, Bool, true, false, ◌&&◌, ◌||◌, cond, List, []}
use Rattle.std.proofs.Common.{◌∷◌, ◌++◌, length, take, get_or, Option, None, Some, is_some, refl, sym, ap}
use Rattle.std.proofs.Common.{◌∙◌, subst, arith}
use Rattle.std.specs.List.{fold}
use Rattle.std.specs.Option.{option_or}
use Rattle.std.specs.Str.{bytes_eq}
use Rattle.std.proofs.Math.Seq.{take-length}
use Rattle.std.proofs.lemmas.List.{length-take-le, take-append-le, take_more}
use Rattle.std.proofs.lemmas.List.Sums.{fold_more}
use Rattle.std.proofs.lemmas.Slice.Eq.{bytes_eq-Decides}
use Rattle.au_base.specs.declared.places.Pos.{Pos}
use Rattle.au_base.proofs.OptionLemmas.{or_none}
use Rattle.au_syntax.specs.Plain.{Bytes}
use Rattle.au_types.specs.Tables.{has_name, with_pair}
use Rattle.au_types.proofs.TableLemmas.{find-with_pair, find-with_pair_other, with_pair-new, with_pair-old}
use Rattle.au_rules.specs.declared.doubles.Double.{Double}
use Rattle.au_rules.specs.declared.marks.Kind.{Kind}
use Rattle.au_rules.specs.declared.marks.Kind.TheVariants.{Values, Callables, Types, Fields}
use Rattle.au_rules.specs.declared.marks.Mark.{Mark}
use Rattle.au_rules.specs.declared.marks.Mark.TheVariants.{Opens, Closes, Declares}
use Rattle.au_rules.specs.declared.marks.Role.{Role}
use Rattle.au_rules.specs.declared.marks.Role.TheVariants.{Local, Whole, Promise, Definition}
use Rattle.au_rules.specs.declared.scopes.Names.{Names}
use Rattle.au_rules.specs.Doubles.{marks_behind, behind_all, double_of, doubles_behind, first_again}
use Rattle.au_rules.specs.Doubles.{is_declared, is_name_again, is_open, is_top, same_kind, same_role, stands}
use Rattle.au_rules.specs.Nests.{entered, left, with_name}
use Rattle.au_rules.specs.Scopes.{after, after_all, closed, double_in, doubles_in, first_in, is_again_among}
use Rattle.au_rules.specs.Scopes.{is_again_in, is_known_in, is_top_in, no_names, no_scopes, noted, opened}
use Rattle.au_rules.proofs.OnceLemmas.{same_kind_self}

-- ---- tables of names

abbrev pub Names_in_table : Type 0
Names_in_table = List (List ℕ × Unit {0})

-- what is found in a table with one name more
has_put : (pairs : Names_in_table) (name other : Bytes) → has_name other (with_pair pairs name tt)
    ≡ (bytes_eq other name || has_name other pairs)
has_put pairs name other = by (bytes_eq other name) (has_name name pairs) refl refl
  where
    by : (b h : Bool) → bytes_eq other name ≡ b → has_name name pairs ≡ h
        → has_name other (with_pair pairs name tt) ≡ (bytes_eq other name || has_name other pairs)
    by true true e k =
        ap (has_name other) (with_pair-old pairs name tt k)
        ∙ ap (λ n. has_name n pairs) ((bytes_eq-Decides other name).0 e) ∙ k
        ∙ sym (ap (λ c. c || has_name other pairs) e)
    by true false e k =
        ap (λ n. has_name n (with_pair pairs name tt)) ((bytes_eq-Decides other name).0 e)
        ∙ ap is_some (find-with_pair pairs name tt k)
        ∙ sym (ap (λ c. c || has_name other pairs) e)
    by false h e k =
        ap is_some (find-with_pair_other pairs name tt other
        (λ same. absurd (differ (sym e ∙ (bytes_eq-Decides other name).1 same))))
        ∙ sym (ap (λ c. c || has_name other pairs) e)
      where
        differ : false ≡ true → ⊥
        differ q = cc

-- ---- nests

-- a nest of which some blocks are left
unfoldable pub left_by : ℕ → Names_in_table × List ℕ → Names_in_table × List ℕ
left_by zero nest = nest
left_by (suc n) nest = left_by n (left nest)

left_none : (n : ℕ) → left_by n ([], []) ≡ ([], [])
unfolding left_by
left_none zero = refl
left_none (suc n) = left_none n

-- to leave a block that was just entered changes nothing
left_entered : (nest : Names_in_table × List ℕ) → left (entered nest) ≡ nest
left_entered nest = ap (λ names. (names, nest.1)) (take-length nest.0)

-- places where blocks begin, the innermost first: each within the names before the one before it
abbrev pub IsRising : List ℕ → ℕ → Type 0
IsRising [] size = Unit {0}
IsRising (begin ∷ begins) size = (begin ≤ size) × IsRising begins begin

-- blocks begin within the names
abbrev pub Fits : Names_in_table × List ℕ → Type 0
Fits nest = IsRising nest.1 (length nest.0)

-- a table with one name more begins as before
put_front : (pairs : Names_in_table) (name : Bytes) (n : ℕ) → n ≤ length pairs
    → take n (with_pair pairs name tt) ≡ take n pairs
put_front pairs name n within = by (has_name name pairs) refl
  where
    by : (h : Bool) → has_name name pairs ≡ h → take n (with_pair pairs name tt) ≡ take n pairs
    by true k = ap (take n) (with_pair-old pairs name tt k)
    by false k = ap (take n) (with_pair-new pairs name tt k) ∙ take-append-le n pairs ((name, tt) ∷ []) within

-- what is put into the innermost block is gone where it is left
left_put : (name : Bytes) (names : Names_in_table) (begins : List ℕ) → IsRising begins (length names)
    → left (with_name name tt (names, begins)) ≡ left (names, begins)
left_put name names [] h = refl
left_put name names (begin ∷ begins) h = ap (λ kept. (kept, begins)) (put_front names name begin h.0)

-- where blocks begin within some names, they do within more
rising_more : (begins : List ℕ) (size more : ℕ) → size ≤ more → IsRising begins size → IsRising begins more
rising_more [] size more le h = tt
rising_more (begin ∷ begins) size more le h = (omega (arith, h.0), h.1)

length_put : (pairs : Names_in_table) (name : Bytes) → length pairs ≤ length (with_pair pairs name tt)
length_put pairs name = by (has_name name pairs) refl
  where
    grown : (xs : Names_in_table) (x : List ℕ × Unit {0}) → length xs ≤ length (xs ++ x ∷ [])
    grown [] x = omega arith
    grown (y ∷ ys) x = omega (arith, grown ys x)

    by : (h : Bool) → has_name name pairs ≡ h → length pairs ≤ length (with_pair pairs name tt)
    by true k = subst (λ p. length pairs ≤ length p) (sym (with_pair-old pairs name tt k)) (omega arith)
    by false k = subst (λ p. length pairs ≤ length p) (sym (with_pair-new pairs name tt k))
        (grown pairs (name, tt))

fits_left : (names : Names_in_table) (begins : List ℕ) → IsRising begins (length names)
    → Fits (left (names, begins))
fits_left names [] h = tt
fits_left names (begin ∷ begins) h = subst (IsRising begins) (sym (length-take-le begin names h.0)) h.1

-- ---- one kind

-- The names of a kind are those that marks declare, the last mark first.
pub record AreNamesOf (kind : Kind) (before : List Mark) (t : Names) : Type 0 where
  pub locals : (name : Bytes) → has_name name t.locals ≡ stands before Local kind name
  pub wholes : (name : Bytes) → has_name name t.wholes ≡ stands before Whole kind name
  pub promises : (name : Bytes) → has_name name t.promises ≡ stands before Promise kind name
  pub definitions : (name : Bytes) → has_name name t.definitions ≡ stands before Definition kind name
  pub nested : (n : ℕ) (name : Bytes) → has_name name (left_by n t.nest).0 ≡ is_open kind name n before
  pub fits : Fits t.nest

-- a name of the kind
here : (kind : Kind) (name other : Bytes) (s : Bool) → (bytes_eq other name || s)
    ≡ ((same_kind kind kind && bytes_eq other name) || s)
here kind name other s = ap (λ c. (c && bytes_eq other name) || s) (sym (same_kind_self kind))

-- a table with one name more holds what one mark more says
put_here : (kind : Kind) (pairs : Names_in_table) (name other : Bytes) (s : Bool) → has_name other pairs ≡ s
    → has_name other (with_pair pairs name tt) ≡ ((same_kind kind kind && bytes_eq other name) || s)
put_here kind pairs name other s is = has_put pairs name other ∙ ap (λ c. bytes_eq other name || c) is
    ∙ here kind name other s

-- a name of the kind is noted
noted_same : (kind : Kind) (before : List Mark) (t : Names) (role : Role) (name : Bytes) (at : Pos)
    → AreNamesOf kind before t → AreNamesOf kind (Declares role kind name at ∷ before) (noted role name t)
unfolding is_open left_by
noted_same kind before t Local name at h = record {
  locals = λ other. put_here kind t.locals name other _ (h.locals other);
  wholes = h.wholes;
  promises = h.promises;
  definitions = h.definitions;
  nested = opens;
  fits = rising_more t.nest.1 (length t.nest.0) (length (with_pair t.nest.0 name tt))
      (length_put t.nest.0 name) h.fits;
}
  where
    opens : (n : ℕ) (other : Bytes) → has_name other (left_by n (with_name name tt t.nest)).0
        ≡ is_open kind other n (Declares Local kind name at ∷ before)
    opens zero other = put_here kind t.nest.0 name other _ (h.nested zero other)
    opens (suc n) other = ap (λ nest. has_name other (left_by n nest).0)
        (left_put name t.nest.0 t.nest.1 h.fits) ∙ h.nested (suc n) other
noted_same kind before t Whole name at h = record {
  locals = h.locals;
  wholes = λ other. put_here kind t.wholes name other _ (h.wholes other);
  promises = h.promises;
  definitions = h.definitions;
  nested = λ n. elim n as (λ n. (other : Bytes) → has_name other (left_by n t.nest).0
      ≡ is_open kind other n (Declares Whole kind name at ∷ before))
      [ zero ↦ h.nested zero | suc k ↦ h.nested (suc k) ];
  fits = h.fits;
}
noted_same kind before t Promise name at h = record {
  locals = h.locals;
  wholes = h.wholes;
  promises = λ other. put_here kind t.promises name other _ (h.promises other);
  definitions = h.definitions;
  nested = λ n. elim n as (λ n. (other : Bytes) → has_name other (left_by n t.nest).0
      ≡ is_open kind other n (Declares Promise kind name at ∷ before))
      [ zero ↦ h.nested zero | suc k ↦ h.nested (suc k) ];
  fits = h.fits;
}
noted_same kind before t Definition name at h = record {
  locals = h.locals;
  wholes = h.wholes;
  promises = h.promises;
  definitions = λ other. put_here kind t.definitions name other _ (h.definitions other);
  nested = λ n. elim n as (λ n. (other : Bytes) → has_name other (left_by n t.nest).0
      ≡ is_open kind other n (Declares Definition kind name at ∷ before))
      [ zero ↦ h.nested zero | suc k ↦ h.nested (suc k) ];
  fits = h.fits;
}

-- a name of another kind says nothing
not_here : (role its : Role) (kind other : Kind) (e s : Bool) → same_kind kind other ≡ false
    → s ≡ ((same_role role its && (same_kind kind other && e)) || s)
not_here role its kind other e s apart = by (same_role role its)
    ∙ ap (λ c. (same_role role its && (c && e)) || s) (sym apart)
  where
    by : (b : Bool) → s ≡ ((b && false) || s)
    by true = refl
    by false = refl

noted_other : (kind : Kind) (before : List Mark) (t : Names) (role : Role) (other : Kind) (name : Bytes)
    (at : Pos)
    → same_kind kind other ≡ false → AreNamesOf kind before t
    → AreNamesOf kind (Declares role other name at ∷ before) t
unfolding is_open left_by
noted_other kind before t role other name at apart h = record {
  locals = λ one. h.locals one ∙ not_here Local role kind other (bytes_eq one name) _ apart;
  wholes = λ one. h.wholes one ∙ not_here Whole role kind other (bytes_eq one name) _ apart;
  promises = λ one. h.promises one ∙ not_here Promise role kind other (bytes_eq one name) _ apart;
  definitions = λ one. h.definitions one ∙ not_here Definition role kind other (bytes_eq one name) _ apart;
  nested = opens;
  fits = h.fits;
}
  where
    opens : (n : ℕ) (one : Bytes) → has_name one (left_by n t.nest).0
        ≡ is_open kind one n (Declares role other name at ∷ before)
    opens zero one = h.nested zero one ∙ not_here Local role kind other (bytes_eq one name) _ apart
    opens (suc n) one = h.nested (suc n) one

-- a block begins
opened_names : (kind : Kind) (before : List Mark) (t : Names) → AreNamesOf kind before t
    → AreNamesOf kind (Opens ∷ before) (opened t)
unfolding is_open left_by
opened_names kind before t h = record {
  locals = h.locals;
  wholes = h.wholes;
  promises = h.promises;
  definitions = h.definitions;
  nested = opens;
  fits = (omega arith, h.fits);
}
  where
    opens : (n : ℕ) (one : Bytes) → has_name one (left_by n (entered t.nest)).0
        ≡ is_open kind one n (Opens ∷ before)
    opens zero one = h.nested zero one
    opens (suc n) one = ap (λ nest. has_name one (left_by n nest).0) (left_entered t.nest) ∙ h.nested n one

-- a block ends
closed_names : (kind : Kind) (before : List Mark) (t : Names) → AreNamesOf kind before t
    → AreNamesOf kind (Closes ∷ before) (closed t)
unfolding is_open left_by
closed_names kind before t h = record {
  locals = h.locals;
  wholes = h.wholes;
  promises = h.promises;
  definitions = h.definitions;
  nested = λ n one. h.nested (suc n) one;
  fits = fits_left t.nest.0 t.nest.1 h.fits;
}

-- nothing is declared
nothing_named : (kind : Kind) → AreNamesOf kind [] no_names
unfolding is_open left_by
nothing_named kind = record {
  locals = λ name. refl;
  wholes = λ name. refl;
  promises = λ name. refl;
  definitions = λ name. refl;
  nested = λ n name. ap (λ nest. has_name name nest.0) (left_none n);
  fits = tt;
}

-- what is declared again
module _ (foreign : Kind → Bytes → Bool) (kind : Kind) (before : List Mark) (t : Names)
    (h : AreNamesOf kind before t) (name : Bytes) where
  top_same : is_top_in t name ≡ is_top before kind name
  top_same = λ i. h.wholes name i || (h.promises name i || h.definitions name i)

  known_same : is_known_in t name ≡ is_declared before kind name
  known_same = λ i. h.locals name i || top_same i

  again_same : (role : Role) → is_again_in (foreign kind name) t role name
      ≡ is_name_again foreign before role kind name
  unfolding left_by
  again_same Local = λ i. foreign kind name || (top_same i || h.nested zero name i)
  again_same Whole = known_same
  again_same Promise = known_same
  again_same Definition = λ i. cond (h.promises name i) (h.definitions name i) (known_same i)

-- ---- all kinds

-- The tables of four kinds are those of marks, the last first.
pub record AreFourOf (before : List Mark) (values callables types fields : Names) : Type 0 where
  pub of_values : AreNamesOf Values before values
  pub of_callables : AreNamesOf Callables before callables
  pub of_types : AreNamesOf Types before types
  pub of_fields : AreNamesOf Fields before fields

-- The tables are those of four kinds, in order.
pub record AreScopesOf (before : List Mark) (s : List Names) : Type 0 where
  pub values : Names
  pub callables : Names
  pub types : Names
  pub fields : Names
  pub are : s ≡ values ∷ callables ∷ types ∷ fields ∷ []
  pub hold : AreFourOf before values callables types fields

-- one mark more
module _ (before : List Mark) (v c t f : Names) (h : AreFourOf before v c t f) where
  abbrev After : Mark → Type 0
  After m = AreScopesOf (m ∷ before) (after (v ∷ c ∷ t ∷ f ∷ []) m)

  four_opened : After Opens
  four_opened = record {
    values = opened v;
    callables = opened c;
    types = opened t;
    fields = opened f;
    are = refl;
    hold = record {
      of_values = opened_names Values before v h.of_values;
      of_callables = opened_names Callables before c h.of_callables;
      of_types = opened_names Types before t h.of_types;
      of_fields = opened_names Fields before f h.of_fields;
    };
  }

  four_closed : After Closes
  four_closed = record {
    values = closed v;
    callables = closed c;
    types = closed t;
    fields = closed f;
    are = refl;
    hold = record {
      of_values = closed_names Values before v h.of_values;
      of_callables = closed_names Callables before c h.of_callables;
      of_types = closed_names Types before t h.of_types;
      of_fields = closed_names Fields before f h.of_fields;
    };
  }

  four_noted : (role : Role) (kind : Kind) (name : Bytes) (at : Pos) → After (Declares role kind name at)
  four_noted role Values name at = record {
    values = noted role name v;
    callables = c;
    types = t;
    fields = f;
    are = refl;
    hold = record {
      of_values = noted_same Values before v role name at h.of_values;
      of_callables = noted_other Callables before c role Values name at refl h.of_callables;
      of_types = noted_other Types before t role Values name at refl h.of_types;
      of_fields = noted_other Fields before f role Values name at refl h.of_fields;
    };
  }
  four_noted role Callables name at = record {
    values = v;
    callables = noted role name c;
    types = t;
    fields = f;
    are = refl;
    hold = record {
      of_values = noted_other Values before v role Callables name at refl h.of_values;
      of_callables = noted_same Callables before c role name at h.of_callables;
      of_types = noted_other Types before t role Callables name at refl h.of_types;
      of_fields = noted_other Fields before f role Callables name at refl h.of_fields;
    };
  }
  four_noted role Types name at = record {
    values = v;
    callables = c;
    types = noted role name t;
    fields = f;
    are = refl;
    hold = record {
      of_values = noted_other Values before v role Types name at refl h.of_values;
      of_callables = noted_other Callables before c role Types name at refl h.of_callables;
      of_types = noted_same Types before t role name at h.of_types;
      of_fields = noted_other Fields before f role Types name at refl h.of_fields;
    };
  }
  four_noted role Fields name at = record {
    values = v;
    callables = c;
    types = t;
    fields = noted role name f;
    are = refl;
    hold = record {
      of_values = noted_other Values before v role Fields name at refl h.of_values;
      of_callables = noted_other Callables before c role Fields name at refl h.of_callables;
      of_types = noted_other Types before t role Fields name at refl h.of_types;
      of_fields = noted_same Fields before f role name at h.of_fields;
    };
  }

  four_after : (m : Mark) → After m
  four_after Opens = four_opened
  four_after Closes = four_closed
  four_after (Declares role kind name at) = four_noted role kind name at

  four_again : (foreign : Kind → Bytes → Bool) (role : Role) (kind : Kind) (name : Bytes)
      → is_again_among (foreign kind name) (v ∷ c ∷ t ∷ f ∷ []) role kind name
      ≡ is_name_again foreign before role kind name
  four_again foreign role Values name = again_same foreign Values before v h.of_values name role
  four_again foreign role Callables name = again_same foreign Callables before c h.of_callables name role
  four_again foreign role Types name = again_same foreign Types before t h.of_types name role
  four_again foreign role Fields name = again_same foreign Fields before f h.of_fields name role

after_mark : (before : List Mark) (s : List Names) (m : Mark) → AreScopesOf before s
    → AreScopesOf (m ∷ before) (after s m)
after_mark before s m h =
    subst (λ x. AreScopesOf (m ∷ before) (after x m)) (sym h.are)
    (four_after before h.values h.callables h.types h.fields h.hold m)

-- more marks, and those of several declarations
after_marks : (before : List Mark) (s : List Names) (marks : List Mark) → AreScopesOf before s
    → AreScopesOf (marks_behind before marks) (after_all s marks)
after_marks before s [] h = h
after_marks before s (m ∷ rest) h = after_marks (m ∷ before) (after s m) rest (after_mark before s m h)

pub after_each : (before : List Mark) (s : List Names) (ds : List (List Mark)) → AreScopesOf before s
    → AreScopesOf (behind_all before ds) (fold after_all s ds)
after_each before s [] h = h
after_each before s (d ∷ rest) h = after_each (marks_behind before d) (after_all s d) rest
    (after_marks before s d h)

pub no_scopes_of : AreScopesOf [] no_scopes
no_scopes_of = record {
  values = no_names;
  callables = no_names;
  types = no_names;
  fields = no_names;
  are = refl;
  hold = record {
    of_values = nothing_named Values;
    of_callables = nothing_named Callables;
    of_types = nothing_named Types;
    of_fields = nothing_named Fields;
  };
}

again_among : (foreign : Kind → Bytes → Bool) (before : List Mark) (s : List Names) → AreScopesOf before s
    → (role : Role) (kind : Kind) (name : Bytes)
    → is_again_among (foreign kind name) s role kind name ≡ is_name_again foreign before role kind name
again_among foreign before s h role kind name =
    ap (λ x. is_again_among (foreign kind name) x role kind name) h.are
    ∙ four_again before h.values h.callables h.types h.fields h.hold foreign role kind name

module _ (foreign : Kind → Bytes → Bool) where
  double_same : (before : List Mark) (s : List Names) (m : Mark) → AreScopesOf before s
      → double_in foreign s m ≡ double_of foreign before m
  double_same before s Opens h = refl
  double_same before s Closes h = refl
  double_same before s (Declares role kind name at) h =
      ap (λ c. cond c (Some (record { name = name; at = at })) None)
      (again_among foreign before s h role kind name)

  first_same : (before : List Mark) (s : List Names) (marks : List Mark) → AreScopesOf before s
      → first_in foreign s marks ≡ first_again foreign before marks
  unfolding first_in first_again
  first_same before s [] h = refl
  first_same before s (m ∷ rest) h =
      λ i. option_or (double_same before s m h i) (first_same (m
      ∷ before) (after s m) rest (after_mark before s m h) i)

  -- the doubles by the tables are those by the marks
  pub doubles_same : (before : List Mark) (s : List Names) (ds : List (List Mark)) → AreScopesOf before s
      → doubles_in foreign s ds ≡ doubles_behind foreign before ds
  unfolding doubles_in doubles_behind
  doubles_same before s [] h = refl
  doubles_same before s (d ∷ rest) h =
      λ i. first_same before s d h i ∷ doubles_same (marks_behind before d) (after_all s d) rest
      (after_marks before s d h) i

  -- ---- one mark more behind others, as a loop goes

  or_assoc : {A : Type 0} (o p q : Option A) → option_or o (option_or p q) ≡ option_or (option_or o p) q
  or_assoc None p q = refl
  or_assoc (Some x) p q = refl

  pub first_push : (s : List Names) (marks : List Mark) (m : Mark) → first_in foreign s (marks ++ m ∷ [])
      ≡ option_or (first_in foreign s marks) (double_in foreign (after_all s marks) m)
  unfolding first_in
  first_push s [] m = or_none (double_in foreign s m)
  first_push s (one ∷ rest) m =
      ap (option_or (double_in foreign s one)) (first_push (after s one) rest m)
      ∙ or_assoc (double_in foreign s one) (first_in foreign (after s one) rest)
      (double_in foreign (after_all (after s one) rest) m)

  pub doubles_push : (s : List Names) (ds : List (List Mark)) (d : List Mark)
      → doubles_in foreign s (ds ++ d ∷ []) ≡ doubles_in foreign s ds
      ++ first_in foreign (fold after_all s ds) d ∷ []
  unfolding doubles_in
  doubles_push s [] d = refl
  doubles_push s (one ∷ rest) d = ap (λ r. first_in foreign s one ∷ r) (doubles_push (after_all s one) rest d)

  -- what one visited mark more makes
  pub first_next : (s : List Names) (marks : List Mark) (i : ℕ) (m : Mark) → i < length marks → m
      ≡ get_or marks i m
      → first_in foreign s (take (i + 1) marks) ≡ option_or (first_in foreign s (take i marks))
      (double_in foreign (after_all s (take i marks)) m)
  first_next s marks i m within is =
      ap (first_in foreign s) (take_more marks i m within ∙ ap (λ x. take i marks ++ x ∷ []) (sym is))
      ∙ first_push s (take i marks) m

pub after_next : (s : List Names) (marks : List Mark) (i : ℕ) (m : Mark) → i < length marks → m
    ≡ get_or marks i m
    → after_all s (take (i + 1) marks) ≡ after (after_all s (take i marks)) m
after_next s marks i m within is = fold_more after s marks i m within
    ∙ ap (after (after_all s (take i marks))) (sym is)

module _ (foreign : Kind → Bytes → Bool) (s : List Names) where
  pub first_nothing : first_in foreign s [] ≡ None
  unfolding first_in
  first_nothing = refl

  pub doubles_nothing : doubles_in foreign s [] ≡ []
  unfolding doubles_in
  doubles_nothing = refl

-- the doubles of two parts, one behind the other, begun with empty tables
pub both_parts : (outer inner : Kind → Bytes → Bool) (interface body : List (List Mark)) (s t : List Names)
    (start one two : List (Option Double))
    → s ≡ no_scopes → start ≡ [] → one ≡ start ++ doubles_in outer s interface → t
    ≡ fold after_all s interface → two ≡ one ++ doubles_in inner t body
    → two ≡ doubles_behind outer [] interface ++ doubles_behind inner (behind_all [] interface) body
both_parts outer inner interface body s t start one two empty nothing first then second =
    let begins : one ≡ doubles_behind outer [] interface =
    first ∙ ap (λ l. l ++ doubles_in outer s interface) nothing ∙ ap (λ x. doubles_in outer x interface) empty
    ∙ doubles_same outer [] no_scopes interface no_scopes_of in
    let goes : t ≡ fold after_all no_scopes interface = then ∙ ap (λ x. fold after_all x interface) empty in
    second
    ∙ ap (λ l. l ++ doubles_in inner t body) begins
    ∙ ap (λ x. doubles_behind outer [] interface ++ doubles_in inner x body) goes
    ∙ ap (λ l. doubles_behind outer [] interface ++ l)
    (doubles_same inner (behind_all [] interface) (fold after_all no_scopes interface) body
    (after_each [] no_scopes interface no_scopes_of))
