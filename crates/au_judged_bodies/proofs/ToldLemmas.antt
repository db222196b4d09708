-- What a `case` tells apart: a union, or one behind a reference.
use Rattle.std.proofs.Common.{◌≡◌, inl, ℕ, zero, suc, Bool, true, false, cond, List, []}
use Rattle.std.proofs.Common.{◌∷◌, map, find, Option, None, Some, refl, sym, ap, ◌∙◌, subst}
use Rattle.std.specs.Prelude.{slice_get}
use Rattle.std.specs.Option.{option_map}
use Rattle.std.proofs.lemmas.Bool.{and_parts}
use Rattle.std.proofs.lemmas.Option.{none-some, same_Some}
use Rattle.au_base.proofs.OptionLemmas.{map_some}
use Rattle.au_syntax.specs.declared.types.Access.{Access}
use Rattle.au_syntax.specs.declared.types.Access.TheVariants.{Read, Write}
use Rattle.au_syntax.specs.Plain.{Bytes}
use Rattle.au_types.specs.declared.types.DeclAt.{DeclAt}
use Rattle.au_types.specs.declared.types.Region.{Region}
use Rattle.au_types.specs.declared.types.Region.TheVariants.{Static, Named, Anonymous}
use Rattle.au_types.specs.Types as mean
use Rattle.au_types.specs.Types.{Arguments, Meaning, named}
use Rattle.au_judged_types.specs.Judging.{refers}
use Rattle.au_matching.specs.Bindings.{Bindings}
use Rattle.au_matching.specs.Substituted.{OfRegion}
use Rattle.au_names.specs.declared.targets.Target.{Target}
use Rattle.au_imports.specs.Clashing.{same_target}
use Rattle.au_type_texts.specs.Given.{Given, closed_under}
use Rattle.au_type_texts.specs.Types as closed
use Rattle.au_type_texts.specs.Types.{ClosedType}
use Rattle.au_running_types.specs.Running.{is_lasting, is_lasting_region, region_running, running}
use Rattle.au_written_types.specs.Written.{IsRegionName}
use Rattle.au_memory.specs.Loans.{Types}
use Rattle.au_effects.specs.Parts.{along}
use Rattle.au_typing.specs.Lookups.{parameters_in}
use Rattle.au_typing.specs.Notes.{Note}
use Rattle.au_typing.specs.Parts.{case_behind, case_meant, cases_behind, cases_told, field_behind}
use Rattle.au_typing.specs.Scopes.{Case, Scope, Typed}
use Rattle.au_meaning.specs.Names as meaning
use Rattle.au_meaning.specs.Names.{fields_through, told_type}
use Rattle.au_meaning.specs.Statements.{fields_told, tag_told}
use Rattle.au_meaning.specs.Views.{Field, View}
use Rattle.au_known_types.specs.Known.{IsKnownIn}
use Rattle.au_known_types.proofs.KnownLemmas.{reads_parts, writes_parts}
use Rattle.au_safe_steps.specs.Orders.{AreApart}
use Rattle.au_running_lives.specs.Blocks.{AreTold, Told, owned, through, to_read, to_write}
use Rattle.au_running_lives.specs.Known.{Callables, InScope}
use Rattle.au_judged_bodies.specs.Frames.{field_closed}
use Rattle.au_judged_bodies.specs.Rounds.{PlaceFits, UnionIsSeen, kinds_running, names_of}

-- ---- references of an access

abbrev told_as : Access → Region → Told
told_as Read region = to_read region
told_as Write region = to_write region

abbrev closed_as : Access → ClosedType → ClosedType
closed_as Read t = closed.reads t
closed_as Write t = closed.writes t

abbrev field_as : Access → Field → Field
field_as kind field = record { name = field.name; of = closed_as kind field.of }

told_through : (kind : Access) (region : Region) (t : Meaning) → through (told_as kind region) t ≡ refers kind t region
told_through Read region t = refl
told_through Write region t = refl

told_good : (active : ℕ → Bool) (kind : Access) (region : Region) → InScope active region
    → AreTold active (told_as kind region)
told_good active Read region is = is
told_good active Write region is = is

closed_refers : (given : Given) (kind : Access) (t : Meaning) (region : Region)
    → closed_under given (refers kind t region) ≡ closed_as kind (closed_under given t)
closed_refers given Read t region = refl
closed_refers given Write t region = refl

running_refers : (s : Bindings) (z : ℕ) (kind : Access) (t : Meaning) (region : Region)
    → running s z (refers kind t region) ≡ refers kind (running s z t) (region_running s z region)
running_refers s z Read t region = refl
running_refers s z Write t region = refl

through_as : (kind : Access) (t : ClosedType) (o : Option (List Field))
    → fields_through (closed_as kind t) o ≡ option_map (map (field_as kind)) o
through_as Read t o = refl
through_as Write t o = refl

told_type_as : (kind : Access) (t : ClosedType) → told_type (closed_as kind t) ≡ t
told_type_as Read t = refl
told_type_as Write t = refl

-- ---- lists

same_through : (parts : List Meaning) → map (through owned) parts ≡ parts
same_through [] = refl
same_through (t ∷ rest) = ap (λ l. t ∷ l) (same_through rest)

module _ (kind : Access) (region : Region) where
  fields_closed : (given : Given) (fields : List Typed)
      → map (field_as kind) (map (field_closed given) fields) ≡ map (field_closed given)
      (map (field_behind kind region) fields)
  fields_closed given [] = refl
  fields_closed given (f ∷ rest) =
      λ i. record { name = f.name; of = sym (closed_refers given kind f.of region) i } ∷ fields_closed given rest i

  kinds_behind : (s : Bindings) (fields : List Typed)
      → map (through (told_as kind (region_running s 0 region))) (kinds_running s 0 fields)
      ≡ kinds_running s 0 (map (field_behind kind region) fields)
  kinds_behind s [] = refl
  kinds_behind s (f ∷ rest) =
      λ i. (told_through kind (region_running s 0 region) (running s 0 f.of)
      ∙ sym (running_refers s 0 kind f.of region)) i ∷ kinds_behind s rest i

  names_behind : (fields : List Typed) → names_of (map (field_behind kind region) fields) ≡ names_of fields
  names_behind [] = refl
  names_behind (f ∷ rest) = ap (λ l. f.name ∷ l) (names_behind rest)

  case_at : (base : List Case) (tag : ℕ) (one : Case) → slice_get (map (case_behind kind region) base) tag ≡ Some one
      → (c : Case) × (slice_get base tag ≡ Some c) × (case_behind kind region c ≡ one)
  case_at [] tag one e = absurd (none-some one e)
  case_at (c ∷ rest) zero one e = (c, refl, same_Some (case_behind kind region c) one e)
  case_at (c ∷ rest) (suc tag) one e = case_at rest tag one e

  case_found : (target : Target) (base : List Case) (one : Case)
      → find (λ (c : Case). same_target target c.target) (map (case_behind kind region) base) ≡ Some one
      → (c : Case) × (find (λ (x : Case). same_target target x.target) base ≡ Some c)
      × (case_behind kind region c ≡ one)
  case_found target [] one e = absurd (none-some one e)
  case_found target (c ∷ rest) one e = by (same_target target c.target) e (case_found target rest one)
    where
      by : (b : Bool)
          → cond b (Some (case_behind kind region c))
          (find (λ (x : Case). same_target target x.target) (map (case_behind kind region) rest)) ≡ Some one
          → (find (λ (x : Case). same_target target x.target) (map (case_behind kind region) rest) ≡ Some one
          → (d : Case) × (find (λ (x : Case). same_target target x.target) rest ≡ Some d)
          × (case_behind kind region d ≡ one))
          → (d : Case) × (cond b (Some c) (find (λ (x : Case). same_target target x.target) rest) ≡ Some d)
          × (case_behind kind region d ≡ one)
      by true e later = (c, refl, same_Some (case_behind kind region c) one e)
      by false e later = later e

  case_meant_behind : (o : Option Target) (base : List Case) (one : Case)
      → case_meant (map (case_behind kind region) base) o ≡ Some one
      → (c : Case) × (case_meant base o ≡ Some c) × (case_behind kind region c ≡ one)
  case_meant_behind None base one e = absurd (none-some one e)
  case_meant_behind (Some target) base one e = case_found target base one e

module _ (types : Types) {I : Type 0} (see : View I Note (Unit {0})) (given : Given) (active : ℕ → Bool) (sc : Scope)
    (s : Bindings) where
  -- what is told apart, with the cases as arms bind them
  pub record ToldFits (n : Note) (t : Meaning) (cases : List Case) : Type 0 where
    pub told : Told
    pub of : Meaning
    pub are : AreTold active told
    pub through_is : running s 0 t ≡ through told of
    pub tag : ℕ
    pub kinds : List Meaning
    pub has : types.fields of tag ≡ Some kinds
    pub seen : (k : ℕ) (one : Case) → slice_get cases k ≡ Some one
        → fields_told see n k ≡ Some (map (field_closed given) one.fields)
    pub each : (k : ℕ) (parts : List Meaning) → types.fields of k ≡ Some parts
        → (one : Case) × (slice_get cases k ≡ Some one) × (map (through told) parts ≡ kinds_running s 0 one.fields)
    pub means : (name : Bytes) (one : Case) → case_meant cases (sc.outside.target name) ≡ Some one
        → (k : ℕ) × (slice_get cases k ≡ Some one) × (tag_told see n name ≡ Some k)
    pub apart : (i j : ℕ) (one other : Case) → slice_get cases i ≡ Some one → slice_get cases j ≡ Some other
        → one.target ≡ other.target → i ≡ j
    pub fields : (k : ℕ) (one : Case) → slice_get cases k ≡ Some one → AreApart (names_of one.fields)

module _ (types : Types) (owner : ClosedType → Option (List ℕ)) {I K : Type 0} (see : View I Note (Unit {0}))
    (known : Callables I K) (may_hand : Meaning → Type 0) (given : Given) (Stands : Bindings → Type 0)
    (result : Meaning)
    (active : ℕ → Bool) (number : ℕ) (sc : Scope) (scope : meaning.Scope) (s : Bindings) (names : ℕ → Meaning)
    (p : PlaceFits types owner see known may_hand given Stands result active number sc scope s names) where
  abbrev Tells : Note → Meaning → List Case → Type 0
  Tells n t cases = ToldFits types see given active sc s n t cases

  abbrev Seen : Meaning → List Case → Type 0
  Seen t cases = UnionIsSeen types see sc.outside s given 0 t cases

  -- a union itself
  whole_told : (n : Note) (at : DeclAt) (args : Arguments) (cases : List Case)
      → see.type_of n ≡ Some (closed_under given (named at args)) → Seen (named at args) cases
      → Tells n (named at args) cases
  whole_told n at args cases noted u = record {
    told = owned;
    of = running s 0 (named at args);
    are = tt;
    through_is = refl;
    tag = 0;
    kinds = kinds_running s 0 u.some.fields;
    has = u.runs 0 u.some u.has_one;
    seen = λ k one e.
        ap (λ o. along o (λ of. fields_through of (see.fields (told_type of) k))) noted ∙ u.closed k one e;
    each = λ k parts e. each_of k parts e (u.only k parts e);
    means = λ name one e. let its = u.means name one e in
        (its.0, its.1, ap (λ o. along o (λ of. see.tag (told_type of) name)) noted ∙ its.2);
    apart = u.apart;
    fields = u.fields;
  }
    where
      each_of : (k : ℕ) (parts : List Meaning) → types.fields (running s 0 (named at args)) k ≡ Some parts
          → (one : Case) × (slice_get cases k ≡ Some one)
          → (one : Case) × (slice_get cases k ≡ Some one) × (map (through owned) parts ≡ kinds_running s 0 one.fields)
      each_of k parts e (one, is) =
          (one, is, same_through parts ∙ same_Some parts (kinds_running s 0 one.fields) (sym e ∙ u.runs k one is))

  -- one behind a reference
  behind_told : (n : Note) (kind : Access) (to : Meaning) (region : Region) (base : List Case)
      → see.type_of n ≡ Some (closed_under given (refers kind to region)) → Seen to base
      → InScope active (region_running s 0 region)
      → Tells n (refers kind to region) (map (case_behind kind region) base)
  behind_told n kind to region base noted u scoped = record {
    told = told_as kind (region_running s 0 region);
    of = running s 0 to;
    are = told_good active kind (region_running s 0 region) scoped;
    through_is = running_refers s 0 kind to region
        ∙ sym (told_through kind (region_running s 0 region) (running s 0 to));
    tag = 0;
    kinds = kinds_running s 0 u.some.fields;
    has = u.runs 0 u.some u.has_one;
    seen = λ k one e. seen_of k one (case_at kind region base k one e);
    each = λ k parts e. each_of k parts e (u.only k parts e);
    means = λ name one e. means_of name one (case_meant_behind kind region (sc.outside.target name) base one e);
    apart = λ i j one other e f same.
        apart_of i j one other (case_at kind region base i one e) (case_at kind region base j other f) same;
    fields = λ k one e. fields_of k one (case_at kind region base k one e);
  }
    where
      c : ClosedType
      c = closed_under given to

      said : see.type_of n ≡ Some (closed_as kind (closed_under given to))
      said = noted ∙ ap (λ (x : ClosedType). Some x) (closed_refers given kind to region)

      seen_of : (k : ℕ) (one : Case)
          → (d : Case) × (slice_get base k ≡ Some d) × (case_behind kind region d ≡ one)
          → fields_told see n k ≡ Some (map (field_closed given) one.fields)
      seen_of k one (d, is, same) =
          ap (λ o. along o (λ of. fields_through of (see.fields (told_type of) k))) said
          ∙ through_as kind c (see.fields (told_type (closed_as kind c)) k)
          ∙ ap (λ x. option_map (map (field_as kind)) (see.fields x k)) (told_type_as kind c)
          ∙ ap (option_map (map (field_as kind))) (u.closed k d is)
          ∙ ap (λ (l : List Field). Some l) (fields_closed kind region given d.fields)
          ∙ ap (λ (x : Case). Some (map (field_closed given) x.fields)) same

      each_of : (k : ℕ) (parts : List Meaning) → types.fields (running s 0 to) k ≡ Some parts
          → (one : Case) × (slice_get base k ≡ Some one)
          → (one : Case) × (slice_get (map (case_behind kind region) base) k ≡ Some one)
          × (map (through (told_as kind (region_running s 0 region))) parts ≡ kinds_running s 0 one.fields)
      each_of k parts e (d, is) = (
        case_behind kind region d,
        mapped k base d is,
        ap (map (through (told_as kind (region_running s 0 region))))
            (same_Some parts (kinds_running s 0 d.fields) (sym e ∙ u.runs k d is))
            ∙ kinds_behind kind region s d.fields,
      )
        where
          mapped : (k : ℕ) (base : List Case) (d : Case) → slice_get base k ≡ Some d
              → slice_get (map (case_behind kind region) base) k ≡ Some (case_behind kind region d)
          mapped k [] d e = absurd (none-some d e)
          mapped zero (x ∷ rest) d e = ap (λ (y : Case). Some (case_behind kind region y)) (same_Some x d e)
          mapped (suc k) (x ∷ rest) d e = mapped k rest d e

      means_of : (name : Bytes) (one : Case)
          → (d : Case) × (case_meant base (sc.outside.target name) ≡ Some d) × (case_behind kind region d ≡ one)
          → (k : ℕ) × (slice_get (map (case_behind kind region) base) k ≡ Some one) × (tag_told see n name ≡ Some k)
      means_of name one (d, is, same) =
          let its = u.means name d is in
          let there = each_of its.0 (kinds_running s 0 d.fields) (u.runs its.0 d its.1) (d, its.1) in (
            its.0,
            there.1 ∙ ap (λ (x : Case). Some x) same,
            ap (λ o. along o (λ of. see.tag (told_type of) name)) said
                ∙ ap (λ x. see.tag x name) (told_type_as kind c) ∙ its.2,
          )

      apart_of : (i j : ℕ) (one other : Case)
          → (d : Case) × (slice_get base i ≡ Some d) × (case_behind kind region d ≡ one)
          → (d : Case) × (slice_get base j ≡ Some d) × (case_behind kind region d ≡ other)
          → one.target ≡ other.target → i ≡ j
      apart_of i j one other (d, is, same) (e, its, alike) equal =
          u.apart i j d e is its
          (ap (λ (x : Case). x.target) same ∙ equal ∙ sym (ap (λ (x : Case). x.target) alike))

      fields_of : (k : ℕ) (one : Case)
          → (d : Case) × (slice_get base k ≡ Some d) × (case_behind kind region d ≡ one) → AreApart
          (names_of one.fields)
      fields_of k one (d, is, same) =
          subst (λ (x : Case). AreApart (names_of x.fields)) same
          (subst AreApart (sym (names_behind kind region d.fields)) (u.fields k d is))

  -- ---- the two together

  scoped_region : (region : Region) → OfRegion (IsRegionName sc.regions (parameters_in sc)) region
      → is_lasting_region region ≡ true → InScope active (region_running s 0 region)
  scoped_region Static is lasts = inl refl
  scoped_region (Named name) is lasts = p.regions name is
  scoped_region Anonymous is lasts = absurd cc

  union_of : (t : Meaning) (cases : List Case) → IsKnownIn sc t → sc.outside.cases t ≡ Some cases → Seen t cases
  union_of t cases whole e = p.round.unions s sc.regions 0 t cases p.good whole e

  through_of : (n : Note) (kind : Access) (to : Meaning) (region : Region) (cases : List Case)
      → see.type_of n ≡ Some (closed_under given (refers kind to region)) → IsKnownIn sc to
      → OfRegion (IsRegionName sc.regions (parameters_in sc)) region → is_lasting_region region ≡ true
      → cases_behind sc kind to region ≡ Some cases → Tells n (refers kind to region) cases
  through_of n kind to region cases noted whole is lasts e =
      let from = map_some (map (case_behind kind region)) (sc.outside.cases to) cases e in
      subst (Tells n (refers kind to region)) from.2
      (behind_told n kind to region from.0 noted (union_of to from.0 whole from.1) (scoped_region region is lasts))

  alone_of : (n : Note) (t : Meaning) (cases : List Case) → see.type_of n ≡ Some (closed_under given t)
      → Seen t cases → Tells n t cases
  alone_of n t cases noted u =
      subst (λ x. Tells n x cases) (sym u.declared)
      (whole_told n u.at u.args cases (noted ∙ ap (λ x. Some (closed_under given x)) u.declared)
      (subst (λ x. Seen x cases) u.declared u))

  pub told_fits : (n : Note) (t : Meaning) (cases : List Case) → see.type_of n ≡ Some (closed_under given t)
      → IsKnownIn sc t → is_lasting t ≡ true → cases_told sc t ≡ Some cases → Tells n t cases
  told_fits n (mean.reads to region) cases noted whole lasts e =
      let parts = reads_parts sc.outside.heads (parameters_in sc) sc.regions to region whole in
      through_of n Read to region cases noted parts.0 parts.1
      (and_parts (is_lasting to) (is_lasting_region region) lasts).1 e
  told_fits n (mean.writes to region) cases noted whole lasts e =
      let parts = writes_parts sc.outside.heads (parameters_in sc) sc.regions to region whole in
      through_of n Write to region cases noted parts.0 parts.1
      (and_parts (is_lasting to) (is_lasting_region region) lasts).1 e
  told_fits n mean.unit cases noted whole lasts e =
      alone_of n mean.unit cases noted (union_of mean.unit cases whole e)
  told_fits n mean.truth cases noted whole lasts e =
      alone_of n mean.truth cases noted (union_of mean.truth cases whole e)
  told_fits n (mean.integer kind) cases noted whole lasts e =
      alone_of n (mean.integer kind) cases noted (union_of (mean.integer kind) cases whole e)
  told_fits n mean.text cases noted whole lasts e =
      alone_of n mean.text cases noted (union_of mean.text cases whole e)
  told_fits n (mean.parameter name) cases noted whole lasts e =
      alone_of n (mean.parameter name) cases noted (union_of (mean.parameter name) cases whole e)
  told_fits n (named at args) cases noted whole lasts e =
      alone_of n (named at args) cases noted (union_of (named at args) cases whole e)
