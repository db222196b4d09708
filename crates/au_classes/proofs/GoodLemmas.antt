-- Instances are refused for nothing exactly where the rule on them holds.
use Rattle.std.proofs.Common.{◌≡◌, ◌⊎◌, inl, inr, ℕ, Bool, true, false, ◌&&◌, List, [], ◌∷◌, ◌++◌, cond, find}
use Rattle.std.proofs.Common.{map, flat_map, Option, None, Some, refl, sym, ap, ◌∙◌, subst, true≢false}
use Rattle.std.proofs.Common.{append_assoc}
use Rattle.std.specs.Prelude.{◌||◌, ◌==◌, Contains, slice_get}
use Rattle.std.specs.Option.{option_map}
use Rattle.std.proofs.lemmas.Bool.{and_parts, and_from, eq-eqb}
use Rattle.std.proofs.lemmas.Bool.Decides.{eqb_tells}
use Rattle.std.proofs.lemmas.Grind.{flat_map-append}
use Rattle.std.proofs.lemmas.List.{append-nil}
use Rattle.std.proofs.lemmas.Option.{none-some, same_Some}
use lib.Dec.{eqb}
use Rattle.au_base.specs.declared.places.Pos.{Pos}
use Rattle.au_base.proofs.OptionLemmas.{map_none, or_first, or_second, or_neither}
use Rattle.au_syntax.specs.declared.modules.Part.TheVariants.{Body}
use Rattle.au_syntax.specs.Plain.{Bytes, PlainMethod}
use Rattle.au_types.specs.declared.headings.Head.{Head}
use Rattle.au_types.specs.declared.types.DeclAt.{DeclAt}
use Rattle.au_types.specs.Rows.{same_place}
use Rattle.au_types.proofs.SameLemmas.{place_is, place_self}
use Rattle.au_matching.specs.Forming.{takes}
use Rattle.au_matching.specs.Universes.{universe_of}
use Rattle.au_modules.specs.Programs.{ModuleParts}
use Rattle.au_names.specs.HeadsOf.{heads_of}
use Rattle.au_names.proofs.AmongLemmas.{Among, among, contains, among-flat_map, among-flat_map_from}
use Rattle.au_promises.specs.Agreeing.{visible}
use Rattle.au_judged_types.specs.Bounds.{parameters}
use Rattle.au_classes.specs.Texts.{InstanceText, instances_of}
use Rattle.au_instances.specs.declared.constructors.Constructor.{Constructor}
use Rattle.au_instances.specs.Constructors.{constructor_of, is_constructor}
use Rattle.au_instances.specs.Forms.{HasForm, has_form}
use Rattle.au_instances.specs.Rows.{Row}
use Rattle.au_instances.specs.Tables.{AreApart, is_row_of}
use Rattle.au_instances.proofs.ConstructorLemmas.{is_that, that_is}
use Rattle.au_instances.proofs.FormLemmas.{form_decides}
use Rattle.au_classes.specs.Classes.{ClassText, class_at, visible_at, visible_in}
use Rattle.au_classes.specs.Methods.{AreMethods, are_methods}
use Rattle.au_classes.specs.Signatures.{given, wanted}
use Rattle.au_classes.proofs.RuleLemmas.{methods_decide}
use Rattle.au_classes.specs.declared.faults.ClassFault.{ClassFault}
use Rattle.au_classes.specs.declared.faults.ClassFault.TheVariants.{BadHead, Orphan, Overlap, MethodDiffers}
use Rattle.au_classes.specs.Faults.{Known, are_written, class_fault, fault_of, first_fault, first_like}
use Rattle.au_classes.specs.Faults.{home_of, instance_fault, is_head, is_home, is_like, known_of}
use Rattle.au_classes.specs.Faults.{methods_fault, module_fault, overlap, place_of, read_fault, row_fault}
use Rattle.au_classes.specs.Faults.{unless, with_text}
use Rattle.au_classes.specs.Good.{InstancesAreGood, IsGood}
use Rattle.au_classes.specs.Rows.{row_in, row_of, row_seen}
use Rattle.au_classes.proofs.FaultLemmas.{fault_cons, fault_nil}

-- ---- a test that holds

holds_from : (b : Bool) (fault : ClassFault) → unless b fault ≡ None → b ≡ true
holds_from true fault h = refl
holds_from false fault h = cc

-- ---- homes

home_from : (a b c : ℕ) → ((a == b) || (a == c)) ≡ true → (a ≡ b) ⊎ (a ≡ c)
home_from a b c h = by (eqb_tells a b) (eqb_tells a c)
  where
    by : ((eqb a b ≡ true) × (a ≡ b)) ⊎ ((eqb a b ≡ false) × (a ≡ b → ⊥)) → ((eqb a c ≡ true) × (a ≡ c))
        ⊎ ((eqb a c ≡ false) × (a ≡ c → ⊥)) → (a ≡ b) ⊎ (a ≡ c)
    by (inl same) other = inl same.1
    by (inr differ) (inl same) = inr same.1
    by (inr differ) (inr others) =
        absurd (true≢false (sym h ∙ ap (λ x. x || eqb a c) differ.0 ∙ others.0))

home_to : (a b c : ℕ) → (a ≡ b) ⊎ (a ≡ c) → ((a == b) || (a == c)) ≡ true
home_to a b c (inl same) = ap (λ x. x || (a == c)) (eq-eqb a b same)
home_to a b c (inr same) = by (a == b)
  where
    by : (x : Bool) → (x || (a == c)) ≡ true
    by true = refl
    by false = eq-eqb a c same

-- ---- what is known

module _ (program : List ModuleParts) where
  abbrev known_from : InstanceText → List Known
  known_from text = known_of text.at (row_of program text)

  abbrev all_known : List InstanceText → List Known
  all_known texts = flat_map known_from texts

  known_next : (before : List InstanceText) (text : InstanceText) → with_text program (all_known before) text
      ≡ all_known (before ++ text ∷ [])
  known_next before text =
      sym (flat_map-append known_from before (text ∷ [])
      ∙ ap (λ ks. all_known before ++ ks) (append-nil (known_from text)))

  -- what is known of an instance
  in_known : (at : Pos) (o : Option Row) (row : Row) → o ≡ Some row → Among (record { at = at; row = row })
      (known_of at o)
  in_known at None row is = absurd (none-some row is)
  in_known at (Some other) row is = inl (ap (λ r. record { at = at; row = r }) (same_Some other row is))

  from_known : (at : Pos) (o : Option Row) (known : Known) → Among known (known_of at o) → o ≡ Some known.row
  from_known at None known m = absurd m
  from_known at (Some row) known (inl here) = ap (λ (k : Known). Some k.row) here
  from_known at (Some row) known (inr later) = absurd later

-- nothing is found where nothing passes
find_nothing : {A : Type 0} (t : A → Bool) (xs : List A) → ((x : A) → Among x xs → t x ≡ true → ⊥) → find t xs ≡ None
find_nothing t [] h = refl
find_nothing t (x ∷ xs) h = by (t x) refl (find_nothing t xs (λ y m. h y (inr m)))
  where
    by : (b : Bool) → t x ≡ b → find t xs ≡ None → find t (x ∷ xs) ≡ None
    by true e rest = absurd (h x (inl refl) e)
    by false e rest = ap (λ c. cond c (Some x) (find t xs)) e ∙ rest

nothing_passes : {A : Type 0} (t : A → Bool) (xs : List A) → find t xs ≡ None → (x : A) → Among x xs → t x ≡ true → ⊥
nothing_passes t [] h x m passes = m
nothing_passes t (y ∷ ys) h x m passes = by (t y) refl (λ rest later. nothing_passes t ys rest x later passes) m
  where
    by : (b : Bool) → t y ≡ b → (find t ys ≡ None → Among x ys → ⊥) → Among x (y ∷ ys) → ⊥
    by true e later one = none-some y (sym (sym (ap (λ c. cond c (Some y) (find t ys)) e) ∙ h))
    by false e later (inl here) = true≢false (sym (subst (λ z. t z ≡ true) (sym here) passes) ∙ e)
    by false e later (inr behind) = later (sym (ap (λ c. cond c (Some y) (find t ys)) e) ∙ h) behind

-- rows of one class and one constructor
like_from : (class : DeclAt) (o : Option Constructor) (known : Known) → is_like class o known ≡ true →
    (class ≡ known.row.class) × (constructor_of known.row.head ≡ o)
like_from class None known h = absurd (true≢false (sym h))
like_from class (Some one) known h =
    let both = and_parts (same_place class known.row.class) (is_constructor one (constructor_of known.row.head)) h in
    (place_is class known.row.class both.0, is_that one (constructor_of known.row.head) both.1)

like_to : (class : DeclAt) (o : Option Constructor) (one : Constructor) (known : Known) → o ≡ Some one →
    class ≡ known.row.class → constructor_of known.row.head ≡ o → is_like class o known ≡ true
like_to class o one known some same headed =
    ap (λ p. is_like class p known) some
    ∙ and_from (same_place class known.row.class) (is_constructor one (constructor_of known.row.head))
    (subst (λ c. same_place class c ≡ true) same (place_self class))
    (that_is one (constructor_of known.row.head) (headed ∙ some))

-- ---- methods

module _ (program : List ModuleParts) (names : List (Bytes × DeclAt)) (row : Row) (class : ClassText) where
  abbrev HasMethods : List PlainMethod → Type 0
  HasMethods methods = AreMethods (wanted (heads_of program) class row.head)
      (given (heads_of program) names (parameters row.generics)) class.methods methods

  methods_from : (o : Option (List PlainMethod)) → are_written (heads_of program) names class row o ≡ true →
      (methods : List PlainMethod) → o ≡ Some methods → HasMethods methods
  methods_from None h methods is = absurd (none-some methods is)
  methods_from (Some list) h methods is =
      subst (λ ms. HasMethods ms) (same_Some list methods is)
      ((methods_decide (wanted (heads_of program) class row.head)
      (given (heads_of program) names (parameters row.generics)) class.methods list).0 h)

  methods_to : (o : Option (List PlainMethod)) →
      ((methods : List PlainMethod) → o ≡ Some methods → HasMethods methods) →
      are_written (heads_of program) names class row o ≡ true
  methods_to None h = refl
  methods_to (Some list) h =
      (methods_decide (wanted (heads_of program) class row.head)
      (given (heads_of program) names (parameters row.generics)) class.methods list).1 (h list refl)

-- ---- one instance

module _ (program : List ModuleParts) (before : List InstanceText) (text : InstanceText) where
  abbrev heads : List (DeclAt × Head)
  heads = heads_of program

  abbrev known : List Known
  known = all_known program before

  good_row : (m : ModuleParts) (row : Row) (class : ClassText) → slice_get program text.number.«module» ≡ Some m
      → row_in text (visible program text.number.«module» m text.part) heads ≡ Some row →
      class_at program row.class ≡ Some class
      → row_fault heads known text (visible program text.number.«module» m Body) row class ≡ None →
      IsGood program before text
  good_row m row class here reads classed h =
      let own = visible program text.number.«module» m Body in
      let place = text.number.«module» in
      let head_ok = holds_from (is_head heads class row) (BadHead text.at)
      (or_first (unless (is_head heads class row) (BadHead text.at)) _ h) in
      let rest = or_second (unless (is_head heads class row) (BadHead text.at)) _ h in
      let home_ok = holds_from (is_home place row) (Orphan text.at)
      (or_first (unless (is_home place row) (Orphan text.at)) _ rest) in
      let others = or_second (unless (is_home place row) (Orphan text.at)) _ rest in
      let apart : first_like known row ≡ None =
      map_none place_of (first_like known row)
      (map_none (Overlap text.at) (option_map place_of (first_like known row))
      (or_first (overlap text.at (option_map place_of (first_like known row))) _ others)) in
      let written_ok = holds_from (are_written heads own class row text.methods) (MethodDiffers text.at)
      (or_second (overlap text.at (option_map place_of (first_like known row))) _ others) in
      let both = and_parts (has_form row.generics row.head)
      (takes class.parameter.universe (universe_of heads (parameters row.generics) row.head)) head_ok in
      let form : HasForm row.generics row.head = (form_decides row.generics row.head).0 both.0 in
      record {
        row = row;
        class = class;
        names = own;
        reads = ap (λ o. row_seen text heads (visible_in program place text.part o)) here ∙ reads;
        of_class = classed;
        seen = ap (visible_in program place Body) here;
        form = form;
        fits = both.1;
        home = home_from place row.class.«module» (home_of (constructor_of row.head)) home_ok;
        apart = λ other its c read same headed.
            nothing_passes (is_like row.class (constructor_of row.head)) known apart
            (record { at = other.at; row = its })
            (among-flat_map_from (known_from program) before other (record { at = other.at; row = its })
            (among before other c) (in_known program other.at (row_of program other) its read))
            (like_to row.class (constructor_of row.head) form.constructor
            (record { at = other.at; row = its }) form.heads (sym same) headed);
        methods = methods_from program own row class text.methods written_ok;
      }

  good_class : (m : ModuleParts) (row : Row) (o : Option ClassText) → class_at program row.class ≡ o →
      slice_get program text.number.«module» ≡ Some m
      → row_in text (visible program text.number.«module» m text.part) heads ≡ Some row
      → class_fault heads known text (visible program text.number.«module» m Body) row o ≡ None →
      IsGood program before text
  good_class m row None classed here reads h = absurd (none-some _ (sym h))
  good_class m row (Some class) classed here reads h = good_row m row class here reads classed h

  good_read : (m : ModuleParts) (o : Option Row) →
      row_in text (visible program text.number.«module» m text.part) heads ≡ o →
      slice_get program text.number.«module» ≡ Some m
      → read_fault heads known text program (visible program text.number.«module» m Body) o ≡ None →
      IsGood program before text
  good_read m None reads here h = absurd (none-some _ (sym h))
  good_read m (Some row) reads here h = good_class m row (class_at program row.class) refl here reads h

  good_module : (o : Option ModuleParts) → slice_get program text.number.«module» ≡ o →
      module_fault program known text o ≡ None → IsGood program before text
  good_module None here h = absurd (none-some _ (sym h))
  good_module (Some m) here h = good_read m
      (row_in text (visible program text.number.«module» m text.part) heads) refl here h

  good_from : fault_of program known text ≡ None → IsGood program before text
  good_from h = good_module (slice_get program text.number.«module») refl h

  accepted_row : (m : ModuleParts) (good : IsGood program before text) →
      good.names ≡ visible program text.number.«module» m Body
      → row_fault heads known text (visible program text.number.«module» m Body) good.row good.class ≡ None
  accepted_row m good seen =
      let own = visible program text.number.«module» m Body in
      let row = good.row in
      let class = good.class in
      let place = text.number.«module» in
      or_neither (unless (is_head heads class row) (BadHead text.at)) _
      (ap (λ b. unless b (BadHead text.at))
      (and_from (has_form row.generics row.head)
      (takes class.parameter.universe (universe_of heads (parameters row.generics) row.head))
      ((form_decides row.generics row.head).1 good.form) good.fits))
      (or_neither (unless (is_home place row) (Orphan text.at)) _
      (ap (λ b. unless b (Orphan text.at))
      (home_to place row.class.«module» (home_of (constructor_of row.head)) good.home))
      (or_neither (overlap text.at (option_map place_of (first_like known row))) _
      (ap (λ o. overlap text.at (option_map place_of o))
      (find_nothing (is_like row.class (constructor_of row.head)) known none_like))
      (ap (λ b. unless b (MethodDiffers text.at)) (methods_to program own row class text.methods
      (λ methods is. subst (λ ns. HasMethods program ns row class methods) seen (good.methods methods is))))))
    where
      none_like : (other : Known) → Among other known → is_like good.row.class (constructor_of good.row.head)
          other ≡ true → ⊥
      none_like other m passes =
          let from : (t : InstanceText) × Among t before × Among other (known_from program t) =
          among-flat_map (known_from program) before other m in
          let same = like_from good.row.class (constructor_of good.row.head) other passes in
          good.apart from.0 other.row (contains before from.0 from.1)
          (from_known program from.0.at (row_of program from.0) other from.2) (sym same.0) same.1

  accepted_module : (good : IsGood program before text) (o : Option ModuleParts) →
      slice_get program text.number.«module» ≡ o
      → visible_in program text.number.«module» Body o ≡ Some good.names →
      row_seen text heads (visible_in program text.number.«module» text.part o) ≡ Some good.row →
      module_fault program known text o ≡ None
  accepted_module good None here seen reads = absurd (none-some good.names seen)
  accepted_module good (Some m) here seen reads =
      ap (read_fault heads known text program (visible program text.number.«module» m Body)) reads
      ∙ ap (class_fault heads known text (visible program text.number.«module» m Body) good.row) good.of_class
      ∙ accepted_row m good (sym (same_Some _ good.names seen))

  good_accepted : IsGood program before text → fault_of program known text ≡ None
  good_accepted good = accepted_module good (slice_get program text.number.«module») refl good.seen good.reads

-- ---- all instances

module _ (program : List ModuleParts) where
  good_at : (before pre post : List InstanceText) (text : InstanceText) →
      first_fault program (all_known program before) (pre ++ text ∷ post) ≡ None →
      IsGood program (before ++ pre) text
  good_at before [] post text h =
      subst (λ bs. IsGood program bs text) (sym (append-nil before))
      (good_from program before text
      (or_first (fault_of program (all_known program before) text)
      (first_fault program (with_text program (all_known program before) text) post)
      (sym (fault_cons program (all_known program before) text post) ∙ h)))
  good_at before (x ∷ pre) post text h =
      subst (λ bs. IsGood program bs text) (append_assoc before (x ∷ []) pre)
      (good_at (before ++ x ∷ []) pre post text
      (ap (λ k. first_fault program k (pre ++ text ∷ post)) (sym (known_next program before x))
      ∙ or_second (fault_of program (all_known program before) x)
      (first_fault program (with_text program (all_known program before) x) (pre ++ text ∷ post))
      (sym (fault_cons program (all_known program before) x (pre ++ text ∷ post)) ∙ h)))

  accepted_from : (before rest : List InstanceText)
      → ((pre post : List InstanceText) (text : InstanceText) → rest ≡ pre ++ text ∷ post →
      IsGood program (before ++ pre) text)
      → first_fault program (all_known program before) rest ≡ None
  accepted_from before [] good = fault_nil program (all_known program before)
  accepted_from before (t ∷ rest) good =
      fault_cons program (all_known program before) t rest
      ∙ or_neither (fault_of program (all_known program before) t)
      (first_fault program (with_text program (all_known program before) t) rest)
      (good_accepted program before t (subst (λ bs. IsGood program bs t) (append-nil before) (good [] rest t refl)))
      (ap (λ k. first_fault program k rest) (known_next program before t)
      ∙ accepted_from (before ++ t ∷ []) rest (λ pre post text split.
      subst (λ bs. IsGood program bs text) (sym (append_assoc before (t ∷ []) pre))
      (good (t ∷ pre) post text (ap (λ xs. t ∷ xs) split))))

  pub instances_good : instance_fault program ≡ None → InstancesAreGood program
  instances_good h before after text split = good_at [] before after text (ap (first_fault program []) (sym split) ∙ h)

  pub instances_accepted : InstancesAreGood program → instance_fault program ≡ None
  instances_accepted good = accepted_from [] (instances_of program) (λ pre post text split. good pre post text split)
