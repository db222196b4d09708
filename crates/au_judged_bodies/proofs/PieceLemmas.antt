-- Parts of statements that run: expressions, parts of records, arms, bounds and borrows.
use Rattle.std.proofs.Common.{◌≡◌, inl, inr, ℕ, zero, suc, ◌+◌, ◌<◌, ◌≤◌, ◌==◌, ◌||◌, Bool, true, false, cond}
use Rattle.std.proofs.Common.{true≢false, List, [], ◌∷◌, find, Option, None, Some, refl, sym, ap}
use Rattle.std.proofs.Common.{◌∙◌}
use Rattle.std.proofs.Common.{subst, arith}
use Rattle.std.specs.Prelude.{is_some, option_and_then, slice_get}
use Rattle.std.specs.Option.{option_map}
use Rattle.std.specs.List.{count_by, list_all, list_any}
use Rattle.std.specs.Str.{bytes_eq}
use Rattle.std.proofs.lemmas.Bool.{and_from, and_parts, eqb-true}
use Rattle.std.proofs.lemmas.List.Sums.{sum_by-cons}
use Rattle.std.proofs.lemmas.Option.{none-some, same_Some}
use Rattle.std.proofs.lemmas.Slice.Eq.{bytes_eq-Decides}
use Rattle.au_base.specs.declared.kinds.IntKind.{IntKind}
use Rattle.au_syntax.specs.declared.expressions.BorrowMode.{BorrowMode}
use Rattle.au_syntax.specs.declared.expressions.BorrowMode.TheVariants as mode
use Rattle.au_syntax.specs.Names.{Placed}
use Rattle.au_syntax.specs.Plain.{Bytes}
use Rattle.au_types.specs.declared.types.Region.{Region}
use Rattle.au_types.specs.declared.types.Region.TheVariants.{Static, Named, Anonymous}
use Rattle.au_types.specs.Types as mean
use Rattle.au_types.specs.Types.{Meaning, in_region, integer, reads, writes}
use Rattle.au_types.proofs.SameLemmas.{place_is}
use Rattle.au_matching.specs.Bindings.{Bindings, value_of, with_pair}
use Rattle.au_matching.specs.Substituted.{OfRegion, region_for}
use Rattle.au_matching.specs.Universes.{is_free, universe_of}
use Rattle.au_matching.proofs.BindingLemmas.{value_of-with_same}
use Rattle.au_names.specs.declared.targets.Target.{Target}
use Rattle.au_imports.specs.Clashing.{same_target}
use Rattle.au_type_texts.specs.Given.{Given, closed_under}
use Rattle.au_type_texts.specs.Types as closed
use Rattle.au_type_texts.specs.Types.{ClosedType}
use Rattle.au_types.specs.Rows.{same_place}
use Rattle.au_running_types.specs.Running.{is_lasting, is_lasting_region, region_running, running, token}
use Rattle.au_running_types.proofs.NameLemmas.{type_lasts}
use Rattle.au_written_types.specs.Written.{IsRegionName}
use Rattle.au_memory.specs.Loans.{Types}
use Rattle.au_lending.specs.Seeing.{LeadsOn}
use Rattle.au_typing.specs.Good.{AllGood, PairedModes}
use Rattle.au_typing.specs.InScope.{fixed_variable, with_reference}
use Rattle.au_typing.specs.Lookups.{IsPart, is_free_in, parameters_in, type_of_name, variable_of}
use Rattle.au_typing.specs.Notes.{Mode, Note, NotedExpression, mode_of, note_of, type_of}
use Rattle.au_typing.specs.Parts.{ArmHead, borrow_type, case_meant, is_for, lent}
use Rattle.au_typing.specs.Scopes.{Case, Scope, Typed, Variable}
use Rattle.au_typing.specs.Statements.{GoodBlock}
use Rattle.au_typing.specs.Statements.{GoodPut, IsLent}
use Rattle.au_typing.specs.Statements.{Wants}
use Rattle.au_typing.specs.Trees.{NotedStatements}
use Rattle.au_meaning.specs.Expressions.{names_of, note_of as noted}
use Rattle.au_meaning.specs.Names as meaning
use Rattle.au_meaning.specs.Views.{View}
use Rattle.au_known_types.specs.Known.{IsKnownIn, ModeIsKnownIn}
use Rattle.au_known_types.proofs.KnownLemmas.{integer_known, opened_known, reads_known, truth_known}
use Rattle.au_known_types.proofs.KnownLemmas.{writes_known}
use Rattle.au_known_types.proofs.KnownLemmas.{writes_parts}
use Rattle.au_known_types.proofs.NotedLemmas.{part_known, type_known}
use Rattle.au_known_types.proofs.ScopeLemmas.{lasts}
use Rattle.au_running_lives.specs.Blocks.{IsFine, IsWholeOf, Lends, MayDrop, RunsAll}
use Rattle.au_running_lives.specs.Expressions.{Borrows, IsNamed, IsOf, LooksInto, Reaches}
use Rattle.au_running_lives.specs.Held.{IsPermitted, Permits}
use Rattle.au_running_lives.specs.Known.{Callables, InScope, with_token}
use Rattle.au_running_lives.specs.Lives.{put}
use Rattle.au_judged_bodies.specs.TypedRunsLaws.{Keeps}
use Rattle.au_judged_bodies.proofs.TypedRunsExpressionLemmas.{had, noted_alike}
use Rattle.au_judged_bodies.proofs.TypedRunsPartLemmas.{part_leads}
use Rattle.au_judged_bodies.specs.Besides.{BesidesAll, IsNewRegion}
use Rattle.au_judged_bodies.specs.Covering.{MayHold}
use Rattle.au_judged_bodies.specs.Rounds.{EachLasts, PlaceFits, VariableStands}
use Rattle.au_judged_bodies.proofs.OnceLemmas.{self_is}
use Rattle.au_judged_bodies.proofs.TypedBlocksPlaceLemmas.{frame_at, opened_stays, place_later, place_open, place_with}
use Rattle.au_judged_bodies.proofs.TypedBlocksPlaceLemmas.{whole_at}
use Rattle.au_judged_bodies.proofs.TypedBlocksPlaceLemmas.{whole_of}

-- ---- arms

target_is : (a b : Target) → same_target a b ≡ true → a ≡ b
target_is a b h =
    let both = and_parts (same_place a.at b.at) (bytes_eq a.name b.name) h in
    let place : a.at ≡ b.at = place_is a.at b.at both.0 in
    let name : a.name ≡ b.name = (bytes_eq-Decides a.name b.name).0 both.1 in
    λ j. record { at = place j; name = name j }

-- the case that is found of a target has it
pub meant_target : (target : Target) (cases : List Case) (one : Case) → case_meant cases (Some target) ≡ Some one
    → target ≡ one.target
meant_target target [] one e = absurd (none-some one e)
meant_target target (c ∷ rest) one e = by (same_target target c.target) refl e (meant_target target rest one)
  where
    by : (b : Bool) → same_target target c.target ≡ b
        → cond b (Some c) (find (λ (x : Case). same_target target x.target) rest) ≡ Some one
        → (case_meant rest (Some target) ≡ Some one → target ≡ one.target) → target ≡ one.target
    by true found e later =
        target_is target c.target found ∙ ap (λ (x : Case). x.target) (same_Some c one e)
    by false found e later = later e

-- an arm for a case has the target of it
pub for_target : (one other : Case) (cases : List Case) (o : Option Target) → is_some (case_meant (one ∷ []) o) ≡ true
    → case_meant cases o ≡ Some other → other.target ≡ one.target
for_target one other cases None is e = absurd (true≢false (sym is))
for_target one other cases (Some target) is e = by (same_target target one.target) refl is
  where
    by : (b : Bool) → same_target target one.target ≡ b → is_some (cond b (Some one) None) ≡ true
        → other.target ≡ one.target
    by true found is = sym (meant_target target cases other e) ∙ target_is target one.target found
    by false found is = absurd (true≢false (sym is))

more_than_none : (a b : ℕ) → a ≡ 0 → b ≡ 1 → a ≡ b → ⊥
more_than_none a b e f g = omega (arith, e, f, g)

-- of what is counted once, there is one
counted_any : {A : Type 0} (test : A → Bool) (xs : List A) → count_by test xs ≡ 1 → list_any test xs ≡ true
counted_any test [] e = absurd (more_than_none (count_by test []) 1 refl refl e)
counted_any {A} test (x ∷ xs) e = by (test x) refl (counted_any test xs)
  where
    none_more : (a : ℕ) → 0 + a ≡ 1 → a ≡ 1
    none_more a e = omega (arith, e)

    by : (b : Bool) → test x ≡ b → (count_by test xs ≡ 1 → list_any test xs ≡ true) → b || list_any test xs ≡ true
    by true found later = refl
    by false found later =
        later (none_more (count_by test xs) (ap (λ c. cond c 1 0 + count_by test xs) (sym found)
        ∙ sym (sum_by-cons (λ y. cond (test y) 1 0) x xs) ∙ e))

pub one_arm : (sc : Scope) (heads : List ArmHead) (cases : List Case)
    → list_all (λ one. count_by (is_for sc one) heads == 1) cases ≡ true → (k : ℕ) (one : Case)
    → slice_get cases k ≡ Some one → list_any (is_for sc one) heads ≡ true
one_arm sc heads [] e k one is = absurd (none-some one is)
one_arm sc heads (c ∷ rest) e zero one is =
    let both = and_parts (count_by (is_for sc c) heads == 1)
    (list_all (λ one. count_by (is_for sc one) heads == 1) rest) e in
    subst (λ x. list_any (is_for sc x) heads ≡ true) (same_Some c one is)
    (counted_any (is_for sc c) heads (eqb-true (count_by (is_for sc c) heads) 1 both.0))
one_arm sc heads (c ∷ rest) e (suc k) one is =
    let both = and_parts (count_by (is_for sc c) heads == 1)
    (list_all (λ one. count_by (is_for sc one) heads == 1) rest) e in
    one_arm sc heads rest both.1 k one is

pub any_rest : (a b : Bool) → a || b ≡ true → (a ≡ true → ⊥) → b ≡ true
any_rest true b e none = absurd (none refl)
any_rest false b e none = e

-- ---- parts and borrows

found_lasts : (name : Bytes) (next : Meaning) (fields : List Typed) → type_of_name name fields ≡ Some next
    → EachLasts fields → is_lasting next ≡ true
found_lasts name next [] e each = absurd (none-some next e)
found_lasts name next (f ∷ rest) e each =
    by (bytes_eq f.name name) e (λ more. found_lasts name next rest more (λ i one is. each (suc i) one is))
  where
    by : (b : Bool)
        → option_map (λ (x : Typed). x.of) (cond b (Some f) (find (λ x. bytes_eq x.name name) rest)) ≡ Some next
        → (type_of_name name rest ≡ Some next → is_lasting next ≡ true) → is_lasting next ≡ true
    by true e later = subst (λ u. is_lasting u ≡ true) (same_Some f.of next e) (each 0 f refl)
    by false e later = later e

pub behind_write : (t of : Meaning) → lent mode.Reborrow t ≡ Some of → (region : Region) × (t ≡ writes of region)
behind_write (writes t region) of e = (region, ap (λ u. writes u region) (same_Some t of e))
behind_write mean.unit of e = absurd (none-some of e)
behind_write mean.truth of e = absurd (none-some of e)
behind_write (integer kind) of e = absurd (none-some of e)
behind_write mean.text of e = absurd (none-some of e)
behind_write (mean.parameter name) of e = absurd (none-some of e)
behind_write (mean.named at args) of e = absurd (none-some of e)
behind_write (reads t region) of e = absurd (none-some of e)

integer_free : (heads : _) (params : _) (kind : IntKind) → is_free (universe_of heads params (integer kind)) ≡ true
unfolding universe_of
integer_free heads params kind = refl

module _ (types : Types) (owner : ClosedType → Option (List ℕ)) {I K : Type 0} (see : View I Note (Unit {0}))
    (known : Callables I K) (may_hand : Meaning → Type 0) (given : Given) (Stands : Bindings → Type 0)
    (loose : ℕ → Bool) (result : Meaning)
    {V W : Type 0} (permits : Permits V W) (key : V) (counts : (kind : IntKind) → IsPermitted permits key
    (integer kind)) where
  abbrev pub Place : (ℕ → Bool) → ℕ → Scope → meaning.Scope → Bindings → (ℕ → Meaning) → Type 0
  Place active number sc scope s names =
      PlaceFits types owner see known may_hand given Stands result active number sc scope s names

  abbrev pub AllRun : NotedStatements → Type 0
  AllRun block =
      (active : ℕ → Bool) (number : ℕ) (sc : Scope) (scope : meaning.Scope) (s : Bindings) (names : ℕ → Meaning)
      → Place active number sc scope s names → GoodBlock block sc → BesidesAll see loose (MayHold permits key Stands)
      may_hand number sc scope block
      → RunsAll types owner see known result loose permits key active number scope block names

  module _ (active : ℕ → Bool) (number : ℕ) (sc : Scope) (scope : meaning.Scope) (s : Bindings) (names : ℕ → Meaning)
      (p : PlaceFits types owner see known may_hand given Stands result active number sc scope s names) where
    abbrev pub Whole : NotedExpression → Meaning → Type 0
    Whole e t = IsWholeOf types owner see known result loose permits key active names scope e t

    pub later_on : (later : ℕ) → number ≤ later → Place active later sc scope s names
    later_on later less = place_later types owner see known may_hand given Stands result active number later sc scope
        s names less p

    pub wanted : (mode : Mode) (t : Meaning) → mode ≡ Some t → IsKnownIn sc t → ModeIsKnownIn sc mode
    wanted mode t is whole = subst (ModeIsKnownIn sc) (sym is) whole

    pub unwanted : (mode : Mode) → mode ≡ None → ModeIsKnownIn sc mode
    unwanted mode is = subst (ModeIsKnownIn sc) (sym is) tt

    -- an expression that is good where a type without `~` is wanted
    pub wants_whole : (e : NotedExpression) (t : Meaning) → Wants sc e (Some t) → IsKnownIn sc t → is_lasting t ≡ true
        → Keeps see may_hand scope e → Whole e (running s 0 t)
    wants_whole e t good whole lasts keeps =
        whole_of types owner see known may_hand given Stands result active number sc scope s names p loose permits
        key e t good.0
        (wanted (mode_of e) t good.1 whole) keeps (had sc e t good.0 good.1) lasts

    pub of_each : (e : NotedExpression) → AllGood sc e → ModeIsKnownIn sc (mode_of e) → Keeps see may_hand scope e
        → (z : ℕ)
        → IsOf types owner see known names z (with_token z active) scope e (running s z (type_of e))
    of_each e good mode keeps z =
        whole_at types owner see known may_hand given Stands result active number sc scope s names p e good mode keeps z

    pub note_is : (e : NotedExpression) → see.type_of (noted e) ≡ Some (closed_under given (type_of e))
    note_is e = ap see.type_of (noted_alike e) ∙ p.round.noted (note_of e)

    pub is_truth : IsKnownIn sc mean.truth
    is_truth = truth_known sc.outside.heads (parameters_in sc) sc.regions

    in_scope : (region : Region) → OfRegion (IsRegionName sc.regions (parameters_in sc)) region
        → is_lasting_region region ≡ true → InScope active (region_running s 0 region)
    in_scope Static is lasts = inl refl
    in_scope (Named name) is lasts = p.regions name is
    in_scope Anonymous is lasts = absurd cc

    -- ---- parts

    pub part_lasts : (path : List (Placed Bytes)) (t part : Meaning) → IsPart sc t path part → is_lasting t ≡ true
        → is_lasting part ≡ true
    part_lasts [] t part is last = subst (λ u. is_lasting u ≡ true) (sym is) last
    part_lasts (field ∷ rest) t part (next, e, is) last =
        part_lasts rest next part is (by (sc.outside.fields t) refl e)
      where
        by : (o : Option (List Typed)) → sc.outside.fields t ≡ o
            → option_and_then (type_of_name field.name) o ≡ Some next → is_lasting next ≡ true
        by None found e = absurd (none-some next e)
        by (Some fields) found e = found_lasts field.name next fields e (p.round.last t fields found last)

    part_at : (path : List (Placed Bytes)) (t part : Meaning) → IsKnownIn sc t → IsPart sc t path part
        → (numbers : List ℕ)
        × (meaning.path_numbers (λ of. see.fields of 0) (Some (closed_under given t)) (names_of path) ≡ Some numbers)
        × LeadsOn types (running s 0 t) numbers (running s 0 part)
    part_at path t part whole is =
        part_leads types see names (with_token 0 active) sc scope s given 0
        (frame_at types owner see known may_hand given Stands result active number sc scope s names p 0) path t part
        whole is

    pub free_part : (path : List (Placed Bytes)) (t part : Meaning) → IsKnownIn sc t → IsPart sc t path part
        → is_free_in sc part ≡ true → types.is_free (running s 0 part) ≡ true
    free_part path t part whole is free =
        p.round.free s sc.regions 0 part p.good (part_known sc p.knows path t part is whole) free

    pub assigns : (x : Bytes) (path : List (Placed Bytes)) (v : Variable) (part : Meaning) → variable_of sc x ≡ Some v
        → IsPart sc v.of path part → is_free_in sc part ≡ true
        → LooksInto types owner see known names 0 active (meaning.variable_of scope x) (names_of path)
        (running s 0 part)
    assigns x path v part found is free =
        subst (λ o. LooksInto types owner see known names 0 active o (names_of path) (running s 0 part))
        (sym there.means) (
          leads.0,
          ap (λ o. meaning.path_numbers (λ of. see.fields of 0) o (names_of path)) there.of ∙ leads.1,
          subst (λ u. LeadsOn types u leads.0 (running s 0 part)) (sym (there.stands 0)) leads.2,
          free_part path v.of part whole is free,
        )
      where
        there : VariableStands names number scope s given x v.of
        there = p.variables x v found

        whole : IsKnownIn sc v.of
        whole = p.knows.variables x v found

        leads : (numbers : List ℕ)
            × (meaning.path_numbers (λ of. see.fields of 0) (Some (closed_under given v.of)) (names_of path) ≡ Some
            numbers)
            × LeadsOn types (running s 0 v.of) numbers (running s 0 part)
        leads = part_at path v.of part whole is

    pub puts : (r : Bytes) (path : List (Placed Bytes)) (v : Variable) (to part : Meaning) (region : Region)
        → variable_of sc r ≡ Some v → v.of ≡ writes to region → IsPart sc to path part
        → Reaches types owner see known names 0 active (meaning.variable_of scope r) (names_of path)
        (region_running s 0 region) (running s 0 part)
        (λ u. IsNamed types owner see known names 0 active (meaning.variable_of scope r)
        (writes u (region_running s 0 region)))
    puts r path v to part region found same is =
        subst (λ o. Reaches types owner see known names 0 active o (names_of path) (region_running s 0 region)
        (running s 0 part)
        (λ u. IsNamed types owner see known names 0 active o (writes u (region_running s 0 region))))
        (sym there.means) (
          leads.0,
          running s 0 to,
          ap (λ o. meaning.path_numbers (λ u. see.fields u 0) o (names_of path))
              (ap meaning.target_behind there.of
              ∙ ap (λ u. meaning.target_behind (Some (closed_under given u))) same) ∙ leads.1,
          there.stands 0 ∙ ap (running s 0) same,
          in_scope region parts.1 (and_parts (is_lasting to) (is_lasting_region region) last).1,
          leads.2,
        )
      where
        there : VariableStands names number scope s given r v.of
        there = p.variables r v found

        parts : IsKnownIn sc to × OfRegion (IsRegionName sc.regions (parameters_in sc)) region
        parts = writes_parts sc.outside.heads (parameters_in sc) sc.regions to region
            (subst (IsKnownIn sc) same (p.knows.variables r v found))

        last : is_lasting (writes to region) ≡ true
        last = subst (λ u. is_lasting u ≡ true) same (p.knows.lasting r v found)

        leads : (numbers : List ℕ)
            × (meaning.path_numbers (λ of. see.fields of 0) (Some (closed_under given to)) (names_of path) ≡ Some
            numbers)
            × LeadsOn types (running s 0 to) numbers (running s 0 part)
        leads = part_at path to part parts.0 is

    pub put_known : (r : Bytes) (path : List (Placed Bytes)) (e : NotedExpression) → (good : GoodPut sc r path e)
        → IsKnownIn sc good.to × (is_lasting good.to ≡ true)
    put_known r path e good = (
      (writes_parts sc.outside.heads (parameters_in sc) sc.regions good.to good.region
          (subst (IsKnownIn sc) good.writes (p.knows.variables r good.variable good.known))).0,
      (and_parts (is_lasting good.to) (is_lasting_region good.region)
          (subst (λ u. is_lasting u ≡ true) good.writes (p.knows.lasting r good.variable good.known))).0,
    )

    -- ---- bounds of loops

    pub bounds_modes : (first second : Bool) (a b : NotedExpression) → PairedModes first second None (note_of a)
        (note_of b)
        → AllGood sc a → AllGood sc b → ModeIsKnownIn sc (mode_of a) × ModeIsKnownIn sc (mode_of b)
    bounds_modes true true a b is ga gb = (unwanted (mode_of a) is.0, unwanted (mode_of b) is.1)
    bounds_modes false false a b is ga gb = (unwanted (mode_of a) is.0, unwanted (mode_of b) is.1)
    bounds_modes true false a b is ga gb =
        let last = unwanted (mode_of b) is.0 in
        (wanted (mode_of a) (type_of b) is.1 (type_known sc p.knows b gb last), last)
    bounds_modes false true a b is ga gb =
        let first = unwanted (mode_of a) is.0 in
        (first, wanted (mode_of b) (type_of a) is.1 (type_known sc p.knows a ga first))

    pub bound_whole : (e : NotedExpression) (kind : IntKind) → AllGood sc e → ModeIsKnownIn sc (mode_of e)
        → Keeps see may_hand scope e → type_of e ≡ integer kind → Whole e (integer kind)
    bound_whole e kind good mode keeps is =
        whole_of types owner see known may_hand given Stands result active number sc scope s names p loose permits
        key e (integer kind) good mode
        keeps is refl

    pub counter_fine : (kind : IntKind) → IsFine types loose permits key number (integer kind)
    counter_fine kind = (
      λ is.
          inl (p.round.free s sc.regions 0 (integer kind) p.good
          (integer_known sc.outside.heads (parameters_in sc) sc.regions kind)
          (integer_free sc.outside.heads (parameters_in sc) kind)),
      counts kind,
    )

    -- ---- borrow statements

    record LentIs (m : BorrowMode) (x : Bytes) (of : Meaning) : Type 0 where
      variable : meaning.Variable
      means : meaning.variable_of scope x ≡ Some variable
      below : variable.number < number
      whole : IsKnownIn sc of
      last : is_lasting of ≡ true
      closes : (region : Bytes)
          → meaning.borrowed m variable.of ≡ Some (closed_under given (borrow_type m region of))
      borrows : (z : ℕ) (more : Bindings) (region : Bytes) → running s 0 of ≡ running more 0 of
          → value_of region more ≡ Some (in_region (token z))
          → Borrows types owner see known names z active m (Some variable) (running more 0 (borrow_type m region of))

    lent_is : (m : BorrowMode) (x : Bytes) (of : Meaning) → IsLent sc m x of → LentIs m x of
    lent_is mode.Read x of its = record {
      variable = there.variable;
      means = there.means;
      below = there.below;
      whole = subst (IsKnownIn sc) same (p.knows.variables x its.variable its.known);
      last = subst (λ u. is_lasting u ≡ true) same (p.knows.lasting x its.variable its.known);
      closes = λ region. ap (meaning.borrowed mode.Read) there.of
          ∙ ap (λ u. Some (closed.reads (closed_under given u))) same;
      borrows = λ z more region stays value.
          λ i. reads ((sym stays ∙ ap (running s 0) (sym same) ∙ sym (there.stands 0)) i)
          (ap (λ o. region_for o region) value i);
    }
      where
        there : VariableStands names number scope s given x its.variable.of
        there = p.variables x its.variable its.known

        same : its.variable.of ≡ of
        same = same_Some its.variable.of of its.lends
    lent_is mode.Write x of its = record {
      variable = there.variable;
      means = there.means;
      below = there.below;
      whole = subst (IsKnownIn sc) same (p.knows.variables x its.variable its.known);
      last = subst (λ u. is_lasting u ≡ true) same (p.knows.lasting x its.variable its.known);
      closes = λ region. ap (meaning.borrowed mode.Write) there.of
          ∙ ap (λ u. Some (closed.writes (closed_under given u))) same;
      borrows = λ z more region stays value.
          λ i. writes ((sym stays ∙ ap (running s 0) (sym same) ∙ sym (there.stands 0)) i)
          (ap (λ o. region_for o region) value i);
    }
      where
        there : VariableStands names number scope s given x its.variable.of
        there = p.variables x its.variable its.known

        same : its.variable.of ≡ of
        same = same_Some its.variable.of of its.lends
    lent_is mode.Reborrow x of its = record {
      variable = there.variable;
      means = there.means;
      below = there.below;
      whole = parts.0;
      last = lasting.0;
      closes = λ region. ap (meaning.borrowed mode.Reborrow) there.of
          ∙ ap (λ u. Some (closed_under given u)) behind.1;
      borrows = λ z more region stays value. (
        running s 0 of,
        region_running s 0 behind.0,
        there.stands 0 ∙ ap (running s 0) behind.1,
        in_scope behind.0 parts.1 lasting.1,
        λ i. writes (sym stays i) (ap (λ o. region_for o region) value i),
      );
    }
      where
        there : VariableStands names number scope s given x its.variable.of
        there = p.variables x its.variable its.known

        behind : (region : Region) × (its.variable.of ≡ writes of region)
        behind = behind_write its.variable.of of its.lends

        parts : IsKnownIn sc of × OfRegion (IsRegionName sc.regions (parameters_in sc)) behind.0
        parts = writes_parts sc.outside.heads (parameters_in sc) sc.regions of behind.0
            (subst (IsKnownIn sc) behind.1 (p.knows.variables x its.variable its.known))

        lasting : (is_lasting of ≡ true) × (is_lasting_region behind.0 ≡ true)
        lasting = and_parts (is_lasting of) (is_lasting_region behind.0)
            (subst (λ u. is_lasting u ≡ true) behind.1 (p.knows.lasting x its.variable its.known))

    borrow_last : (m : BorrowMode) (region : Bytes) (of : Meaning) → is_lasting of ≡ true
        → is_lasting (borrow_type m region of) ≡ true
    borrow_last mode.Read region of last = and_from (is_lasting of) true last refl
    borrow_last mode.Write region of last = and_from (is_lasting of) true last refl
    borrow_last mode.Reborrow region of last = and_from (is_lasting of) true last refl

    opened_region : (region : Bytes) → IsRegionName (region ∷ sc.regions) (parameters_in sc) region
    opened_region region = inl (ap (λ b. b || list_any (bytes_eq region) sc.regions) (self_is region))

    borrow_known : (m : BorrowMode) (region : Bytes) (of : Meaning) → IsKnownIn sc of
        → IsKnownIn (record sc { regions = region ∷ sc.regions }) (borrow_type m region of)
    borrow_known mode.Read region of whole =
        reads_known sc.outside.heads (parameters_in sc) (region ∷ sc.regions) of (Named region)
        (opened_known sc.outside.heads (parameters_in sc) sc.regions region of whole) (opened_region region)
    borrow_known mode.Write region of whole =
        writes_known sc.outside.heads (parameters_in sc) (region ∷ sc.regions) of (Named region)
        (opened_known sc.outside.heads (parameters_in sc) sc.regions region of whole) (opened_region region)
    borrow_known mode.Reborrow region of whole =
        writes_known sc.outside.heads (parameters_in sc) (region ∷ sc.regions) of (Named region)
        (opened_known sc.outside.heads (parameters_in sc) sc.regions region of whole) (opened_region region)

    borrow_drops : (m : BorrowMode) (region : Bytes) (of : Meaning) (z : ℕ) (more : Bindings)
        → value_of region more ≡ Some (in_region (token z)) → MayDrop types (running more 0 (borrow_type m region of))
    borrow_drops mode.Read region of z more value =
        inl (p.round.readers (running more 0 of) (region_running more 0 (Named region)))
    borrow_drops mode.Write region of z more value =
        inr (
          running more 0 of,
          region_running more 0 (Named region),
          refl,
          inr
              (z, ap (λ o. region_for o region) value),
        )
    borrow_drops mode.Reborrow region of z more value =
        inr (
          running more 0 of,
          region_running more 0 (Named region),
          refl,
          inr
              (z, ap (λ o. region_for o region) value),
        )

    pub lent_runs : (m : BorrowMode) (x r region : Bytes) (of : Meaning) (block : NotedStatements) → IsLent sc m x of
        → IsNewRegion sc region → GoodBlock block (with_reference r region (borrow_type m region of) sc)
        → MayHold permits key Stands (borrow_type m region of)
        → BesidesAll see loose (MayHold permits key Stands) may_hand (number + 1)
        (with_reference r region (borrow_type m region of) sc)
        (meaning.with_reference m (meaning.variable_of scope x) number r scope) block → AllRun block
        → Lends types owner see known result loose permits key active number m (meaning.variable_of scope x) names
        (λ more of. RunsAll types owner see known result loose permits key more (number + 1)
        (meaning.with_reference m (meaning.variable_of scope x) number r scope) block of)
    lent_runs m x r region of block its new good holds besides block_runs z off = (
      running more 0 bt,
      subst (λ o. Borrows types owner see known names z active m o (running more 0 bt)) (sym lent_so.means)
          (lent_so.borrows z more region (opened_stays region (in_region (token z)) s sc new 0 of lent_so.whole) value),
      (λ is. borrow_drops m region of z more value, holds more (p.round.opens s region z p.good new.1)),
      block_runs (with_token z active) (number + 1) (with_reference r region bt sc)
          (meaning.with_reference m (meaning.variable_of scope x) number r scope) more
          (put number (running more 0 bt) names)
          (place_with types owner see known may_hand given Stands result (with_token z active) number
          (record sc { regions = region ∷ sc.regions }) scope more names
          (place_open types owner see known may_hand given Stands result active number sc scope s names p z region new)
          (number + 1) (fixed_variable r bt)
          (meaning.borrowed m (meaning.type_in (meaning.variable_of scope x))) (running more 0 bt) (omega arith)
          (borrow_known m region of lent_so.whole) (borrow_last m region of lent_so.last)
          (ap (λ o. meaning.borrowed m (meaning.type_in o)) lent_so.means ∙ lent_so.closes region)
          (λ y. type_lasts more 0 y bt (borrow_last m region of lent_so.last))) good besides,
    )
      where
        bt : Meaning
        bt = borrow_type m region of

        more : Bindings
        more = with_pair region (in_region (token z)) s

        value : value_of region more ≡ Some (in_region (token z))
        value = value_of-with_same region (in_region (token z)) s

        lent_so : LentIs m x of
        lent_so = lent_is m x of its
