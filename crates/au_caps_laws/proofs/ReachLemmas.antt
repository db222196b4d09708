-- What a type reaches once closed types are given for its type parameters.
use Rattle.std.proofs.Common.{◌≡◌, ◌⊎◌, inl, inr, Bool, true, false, List, [], ◌∷◌, ◌++◌, Option, None, Some, refl, sym, ap}
use Rattle.std.proofs.Common.{subst}
use Rattle.std.specs.Prelude.{Contains, if◌then◌else◌}
use Rattle.std.specs.List.{list_any}
use Rattle.std.specs.Option.{option_map, option_or}
use Rattle.std.specs.Str.{bytes_eq}
use Rattle.std.proofs.lemmas.Option.{none-some, same_Some}
use Rattle.au_syntax.specs.declared.declarations.Universe.{Universe}
use Rattle.au_syntax.specs.declared.declarations.Universe.TheVariants as universes
use Rattle.au_syntax.specs.declared.types.Access.{Access}
use Rattle.au_syntax.specs.declared.types.Access.TheVariants as access
use Rattle.au_syntax.specs.Plain.{Bytes}
use Rattle.au_syntax.specs.declared.modules.Part.TheVariants.{Body}
use Rattle.au_syntax.specs.Types.{Labelled, WrittenType, WrittenTypes, named, no_types, reference, types}
use Rattle.au_types.specs.declared.headings.Head.{Head}
use Rattle.au_types.specs.declared.parameters.Parameter.{Parameter}
use Rattle.au_types.specs.declared.types.DeclAt.{DeclAt}
use Rattle.au_types.specs.declared.types.Region.{Region}
use Rattle.au_types.specs.declared.types.Region.TheVariants as regions
use Rattle.au_types.specs.Meant.{Given as Means, all_given, alone, applied, argument_meant, arguments_meant, followed, meant}
use Rattle.au_types.specs.Meant.{refers, region_meant, region_of, span_of, span_with}
use Rattle.au_types.specs.Senses as senses
use Rattle.au_types.specs.Senses.{Sense, outer_sense, parameter_sense, sense_of}
use Rattle.au_types.specs.Universes.{universe_in}
use Rattle.au_types.specs.Types as whole
use Rattle.au_types.specs.Types.{Argument, Arguments, Meaning}
use Rattle.au_type_texts.specs.Given.{Given, all_closed_under, closed_under, given_for}
use Rattle.au_modules.specs.Programs.{ModuleParts}
use Rattle.au_names.specs.HeadsOf.{heads_of}
use Rattle.au_names.proofs.AmongLemmas.{Among, among, among-append, among-append_left, among-append_right}
use Rattle.au_names.proofs.AmongLemmas.{among-flat_map_from, contains}
use Rattle.au_typing.specs.Notes.{type_of}
use Rattle.au_typing.specs.Written.{types_at}
use Rattle.au_caps_lists.specs.Bodies.{Bodied, params_of, sense_in}
use Rattle.au_caps_lists.specs.Holding.{handed_by_block, handed_mentions, held_in_block, held_mentions}
use Rattle.au_caps_lists.specs.Mentions.{Mention, all_written, declared, generic, mentions, mentions_in}
use Rattle.au_caps_lists.specs.Mentions.{field_mentions, mentions_in_all, mentions_of, written_mentions}
use Rattle.au_caps_lists.specs.Reaching.{Reaches, a_head}
use Rattle.au_caps_laws.specs.Reach.{ArgumentsAreHanded, GivenReaches, IsReachedOrGiven, ParametersAreHeld}
use Rattle.au_caps_laws.specs.Reach.{ResultIsHanded, TypesReach, VariablesAreHeld, WrittenTypesReach, declared_in}
use Rattle.au_caps_laws.specs.Reach.{declared_in_all}
use Rattle.au_judged_bodies.specs.WrittenTypes.{types_in_block}
use Rattle.au_judged_bodies.specs.Texts.{arguments_by_block}
use Rattle.au_caps_laws.proofs.TextLemmas.{block_handed, block_held}

module _ (given : Given) (a : DeclAt) where
  -- where a declared type of a closed type comes from: it is mentioned, or it stands in what is given
  abbrev Comes : List Mention → Type 0
  Comes all = Among (declared a) all ⊎ ((name : Bytes) × Among (generic name) all × Among a
      (declared_in (given_for given name)))

  left : (xs ys : List Mention) → Comes xs → Comes (xs ++ ys)
  left xs ys (inl m) = inl (among-append_left xs ys (declared a) m)
  left xs ys (inr (name, m, there)) = inr (name, among-append_left xs ys (generic name) m, there)

  right : (xs ys : List Mention) → Comes ys → Comes (xs ++ ys)
  right xs ys (inl m) = inl (among-append_right xs ys (declared a) m)
  right xs ys (inr (name, m, there)) = inr (name, among-append_right xs ys (generic name) m, there)

  mutual
    unfolding declared_in declared_in_all mentions mentions_in mentions_in_all

    comes : (t : Meaning) → Among a (declared_in (closed_under given t)) → Comes (mentions t)
    comes whole.unit m = absurd m
    comes whole.truth m = absurd m
    comes (whole.integer kind) m = absurd m
    comes whole.text m = absurd m
    comes (whole.parameter name) m = inr (name, inl refl, m)
    comes (whole.named at args) (inl here) = inl (inl (ap declared here))
    comes (whole.named at args) (inr later) = right (declared at ∷ []) (mentions_in_all args) (all_come args later)
    comes (whole.reads t region) m = comes t m
    comes (whole.writes t region) m = comes t m

    all_come : (args : Arguments) → Among a (declared_in_all (all_closed_under given args)) → Comes
        (mentions_in_all args)
    all_come whole.no_arguments m = absurd m
    all_come (whole.arguments (whole.of_type t) rest) m =
        by (among-append (declared_in (closed_under given t)) (declared_in_all (all_closed_under given rest)) a m)
        (comes t) (all_come rest)
      where
        by : Among a (declared_in (closed_under given t)) ⊎ Among a (declared_in_all (all_closed_under given rest))
            → (Among a (declared_in (closed_under given t)) → Comes (mentions t))
            → (Among a (declared_in_all (all_closed_under given rest)) → Comes (mentions_in_all rest))
            → Comes (mentions t ++ mentions_in_all rest)
        by (inl here) one others = left (mentions t) (mentions_in_all rest) (one here)
        by (inr behind) one others = right (mentions t) (mentions_in_all rest) (others behind)
    all_come (whole.arguments (whole.in_region region) rest) m = all_come rest m

pub types_reach : (program : List ModuleParts) → TypesReach program
types_reach program given t h (a, there, reaches) =
    by (comes given a t (among (declared_in (closed_under given t)) a there))
  where
    by : Comes given a (mentions t) → GivenReaches program given (mentions t) h
    by (inl m) = inl (a, contains (mentions t) (declared a) m, reaches)
    by (inr (name, m, its)) =
        inr (
          name,
          contains (mentions t) (generic name) m,
          (
            a,
            contains (declared_in (given_for given name)) a its,
            reaches,
          ),
        )

-- ---- written types

-- what isn't a region means the same where no region is open
not_open : (opened : List Bytes) (params : List Parameter) (visible : List (Bytes × DeclAt))
    (heads : List (DeclAt × Head))
    (name : Bytes) (s : Sense) → sense_of opened params visible heads name ≡ Some s
    → ((r : Region) → s ≡ senses.a_region r → ⊥) → sense_of [] params visible heads name ≡ Some s
not_open opened params visible heads name s e no_region = by (list_any (bytes_eq name) opened) e
  where
    by : (b : Bool) → option_or (if b then Some (senses.a_region (regions.Named name)) else None)
        (option_or (option_map (parameter_sense name) (universe_in params name)) (outer_sense visible heads name))
        ≡ Some s
        → option_or (option_map (parameter_sense name) (universe_in params name)) (outer_sense visible heads name)
        ≡ Some s
    by true e = absurd (no_region (regions.Named name) (sym (same_Some (senses.a_region (regions.Named name)) s e)))
    by false e = e

span_is : (o : Option Meaning) (r : Option Region) (t : Meaning) → span_of o r ≡ Some t → t ≡ whole.text
span_is None r t e = absurd (none-some t e)
span_is (Some u) None t e = absurd (none-some t e)
span_is (Some u) (Some region) t e = by _ e
  where
    by : (b : Bool) → (if b then Some whole.text else None) ≡ Some t → t ≡ whole.text
    by true e = sym (same_Some whole.text t e)
    by false e = absurd (none-some t e)

span_text : (args : List Means) (t : Meaning) → span_with args ≡ Some t → t ≡ whole.text
span_text [] t e = absurd (none-some t e)
span_text (a ∷ []) t e = absurd (none-some t e)
span_text (a ∷ b ∷ []) t e = span_is a.as_type b.as_region t e
span_text (a ∷ b ∷ c ∷ more) t e = absurd (none-some t e)

module _ (opened : List Bytes) (params : List Parameter) (visible : List (Bytes × DeclAt))
    (heads : List (DeclAt × Head))
    (m : Mention) where
  abbrev sense : Bytes → Option Sense
  sense = sense_of [] params visible heads

  abbrev means : WrittenType → Option Meaning
  means t = meant opened params visible heads t

  -- what stands in what an argument means stands in it
  Stands : WrittenType → Type 0
  Stands t = (u : Meaning) → means t ≡ Some u → Among m (mentions u) → Among m (written_mentions sense t)

  in_argument : (universe : Universe) (t : WrittenType) (one : Means) (a : Argument) → one.as_type ≡ means t
      → argument_meant universe one ≡ Some a → Stands t → Among m (mentions_in a) → Among m (written_mentions sense t)
  unfolding Stands mentions_in
  in_argument universes.Region t one a is e stands there = by one.as_region e
    where
      by : (o : Option Region) → option_map whole.in_region o ≡ Some a → Among m (written_mentions sense t)
      by None e = absurd (none-some a e)
      by (Some r) e = absurd (subst (λ (x : Argument). Among m (mentions_in x))
          (sym (same_Some (whole.in_region r) a e)) there)
  in_argument universes.Free t one a is e stands there = as_type one.as_type is e
    where
      as_type : (o : Option Meaning) → o ≡ means t → option_map whole.of_type o ≡ Some a
          → Among m (written_mentions sense t)
      as_type None is e = absurd (none-some a e)
      as_type (Some u) is e =
          stands u (sym is) (subst (λ (x : Argument). Among m (mentions_in x))
          (sym (same_Some (whole.of_type u) a e)) there)
  in_argument universes.Linear t one a is e stands there = as_type one.as_type is e
    where
      as_type : (o : Option Meaning) → o ≡ means t → option_map whole.of_type o ≡ Some a
          → Among m (written_mentions sense t)
      as_type None is e = absurd (none-some a e)
      as_type (Some u) is e =
          stands u (sym is) (subst (λ (x : Argument). Among m (mentions_in x))
          (sym (same_Some (whole.of_type u) a e)) there)
  in_argument universes.AnyType t one a is e stands there = as_type one.as_type is e
    where
      as_type : (o : Option Meaning) → o ≡ means t → option_map whole.of_type o ≡ Some a
          → Among m (written_mentions sense t)
      as_type None is e = absurd (none-some a e)
      as_type (Some u) is e =
          stands u (sym is) (subst (λ (x : Argument). Among m (mentions_in x))
          (sym (same_Some (whole.of_type u) a e)) there)

  AllStand : WrittenTypes → Type 0
  AllStand args =
      (expected : List Parameter) (these : Arguments)
      → arguments_meant expected (all_given opened params visible heads args) ≡ Some these
      → Among m (mentions_in_all these) → Among m (all_written sense args)

  in_arguments : (t : WrittenType) (rest : WrittenTypes) → Stands t → AllStand rest → AllStand (types t rest)
  unfolding AllStand all_given mentions_in_all written_mentions all_written
  in_arguments t rest one others [] these e there = absurd (none-some these e)
  in_arguments t rest one others (p ∷ expected) these e there =
      by (argument_meant p.universe (record {
        as_type = means t;
        as_region = region_meant opened params visible heads t;
      })) refl
      (arguments_meant expected (all_given opened params visible heads rest)) refl e
    where
      by : (a : Option Argument)
          → argument_meant p.universe (record {
            as_type = means t;
            as_region = region_meant opened params visible
                heads t;
          })
          ≡ a → (o : Option Arguments) → arguments_meant expected (all_given opened params visible heads rest) ≡ o
          → followed a o ≡ Some these → Among m (written_mentions sense t ++ all_written sense rest)
      by None is o its e = absurd (none-some these e)
      by (Some a) is None its e = absurd (none-some these e)
      by (Some a) is (Some more) its e =
          split (among-append (mentions_in a) (mentions_in_all more) m
          (subst (λ (x : Arguments). Among m (mentions_in_all x)) (sym (same_Some (whole.arguments a more) these e))
          there))
        where
          split : Among m (mentions_in a) ⊎ Among m (mentions_in_all more)
              → Among m (written_mentions sense t ++ all_written sense rest)
          split (inl here) =
              among-append_left (written_mentions sense t) (all_written sense rest) m
              (in_argument p.universe t
              (record { as_type = means t; as_region = region_meant opened params visible heads t }) a refl is one here)
          split (inr behind) =
              among-append_right (written_mentions sense t) (all_written sense rest) m (others expected more its behind)

  in_named : (name : Bytes) (args : WrittenTypes) (s : Option Sense) → sense_of opened params visible heads name ≡ s
      → AllStand args → (u : Meaning) → applied s (all_given opened params visible heads args) ≡ Some u
      → Among m (mentions u) → Among m (mentions_of (sense name) ++ all_written sense args)
  unfolding AllStand mentions
  in_named name args None at all u e there = absurd (none-some u e)
  in_named name args (Some (senses.a_type t)) at all u e there =
      among-append_left (mentions_of (sense name)) (all_written sense args) m
      (subst (λ (o : Option Sense). Among m (mentions_of o))
      (sym (not_open opened params visible heads name (senses.a_type t) at (λ r same. cc)))
      (subst (λ (x : Meaning). Among m (mentions x)) (sym (alone_is (all_given opened params visible heads args) e))
      there))
    where
      alone_is : (list : List Means) → alone t list ≡ Some u → t ≡ u
      alone_is [] e = same_Some t u e
      alone_is (a ∷ more) e = absurd (none-some u e)
  in_named name args (Some senses.a_span) at all u e there =
      absurd (subst (λ (x : Meaning). Among m (mentions x)) (span_text (all_given opened params visible heads args) u
      e) there)
  in_named name args (Some (senses.a_region r)) at all u e there = absurd (none-some u e)
  in_named name args (Some (senses.declared d expected)) at all u e there =
      by (arguments_meant expected (all_given opened params visible heads args)) refl e
    where
      by : (o : Option Arguments) → arguments_meant expected (all_given opened params visible heads args) ≡ o
          → option_map (whole.named d) o ≡ Some u → Among m (mentions_of (sense name) ++ all_written sense args)
      by None is e = absurd (none-some u e)
      by (Some these) is e =
          split (subst (λ (x : Meaning). Among m (mentions x)) (sym (same_Some (whole.named d these) u e)) there)
        where
          split : Among m (declared d ∷ mentions_in_all these)
              → Among m (mentions_of (sense name) ++ all_written sense args)
          split (inl here) =
              among-append_left (mentions_of (sense name)) (all_written sense args) m
              (subst (λ (o : Option Sense). Among m (mentions_of o))
              (sym (not_open opened params visible heads name (senses.declared d expected) at (λ r same. cc)))
              (inl here))
          split (inr behind) =
              among-append_right (mentions_of (sense name)) (all_written sense args) m (all expected these is behind)
  in_named name args (Some (senses.a_class c)) at all u e there = absurd (none-some u e)

  in_reference : (kind : Access) (t : WrittenType) (r : Option Region) (o : Option Meaning) → means t ≡ o → Stands t
      → (u : Meaning) → refers kind o r ≡ Some u → Among m (mentions u) → Among m (written_mentions sense t)
  unfolding Stands mentions
  in_reference access.Read t (Some region) (Some v) is stands u e there =
      stands v is (subst (λ (x : Meaning). Among m (mentions x)) (sym (same_Some (whole.reads v region) u e)) there)
  in_reference access.Write t (Some region) (Some v) is stands u e there =
      stands v is (subst (λ (x : Meaning). Among m (mentions x)) (sym (same_Some (whole.writes v region) u e)) there)
  in_reference access.Read t None (Some v) is stands u e there = absurd (none-some u e)
  in_reference access.Write t None (Some v) is stands u e there = absurd (none-some u e)
  in_reference access.Read t r None is stands u e there = absurd (none-some u e)
  in_reference access.Write t r None is stands u e there = absurd (none-some u e)

  mutual
    unfolding Stands AllStand meant all_given written_mentions all_written mentions_in_all

    stands_in : (t : WrittenType) → Stands t
    stands_in (named name args) u e there =
        in_named name.name args (sense_of opened params visible heads name.name) refl (all_stand_in args) u e there
    stands_in (reference at kind target region) u e there =
        in_reference kind target (region_of (sense_of opened params visible heads region.name)) (means target) refl
        (stands_in target) u e there

    all_stand_in : (args : WrittenTypes) → AllStand args
    all_stand_in no_types [] these e there =
        absurd (subst (λ (x : Arguments). Among m (mentions_in_all x)) (sym (same_Some whole.no_arguments these e))
        there)
    all_stand_in no_types (p ∷ expected) these e there = absurd (none-some these e)
    all_stand_in (types t rest) expected these e there =
        in_arguments t rest (stands_in t) (all_stand_in rest) expected these e there

in_written : (opened : List Bytes) (params : List Parameter) (visible : List (Bytes × DeclAt))
    (heads : List (DeclAt × Head))
    (m : Mention) (t : WrittenType) (u : Meaning) → meant opened params visible heads t ≡ Some u → Among m (mentions u)
    → Among m (written_mentions (sense_of [] params visible heads) t)
unfolding Stands
in_written opened params visible heads m t u e there = stands_in opened params visible heads m t u e there

pub written_types_reach : (program : List ModuleParts) → WrittenTypesReach program
written_types_reach program opened params visible heads given written t is h reaches =
    by (types_reach program given t h reaches)
  where
    more : (x : Mention) → Contains (mentions t) x
        → Contains (written_mentions (sense_of [] params visible heads) written) x
    more x c =
        contains (written_mentions (sense_of [] params visible heads) written) x
        (in_written opened params visible heads x written t is (among (mentions t) x c))

    by : GivenReaches program given (mentions t) h
        → GivenReaches program given (written_mentions (sense_of [] params visible heads) written) h
    by (inl (a, c, its)) = inl (a, more (declared a) c, its)
    by (inr (name, c, its)) = inr (name, more (generic name) c, its)

-- ---- bodies

module _ (program : List ModuleParts) (b : Bodied) (given : Given) where
  -- what these mentions reach, all of which are among others, is reached by those, or by what is given
  reached_so : (some all : List Mention) → ((x : Mention) → Contains some x → Contains all x) → (h : Bytes)
      → GivenReaches program given some h → IsReachedOrGiven program given (Reaches program (params_of b) all) h
  reached_so some all more h (inl (a, c, its)) = inl (a_head a h (more (declared a) c) its)
  reached_so some all more h (inr (name, c, its)) = inr (name, its)

  pub parameters_held : ParametersAreHeld program b given
  parameters_held f there t is h reaches =
      reached_so (written_mentions (sense_in program b) f.of) (held_mentions program b) more h
      (written_types_reach program [] (params_of b) (types_at program b.place Body) (heads_of program) given f.of t is h
      reaches)
    where
      more : (x : Mention) → Contains (written_mentions (sense_in program b) f.of) x → Contains
          (held_mentions program b) x
      more x c =
          contains (held_mentions program b) x
          (among-append_left (field_mentions (sense_in program b) b.header.parameters)
          (held_in_block (sense_in program b) b.block) x
          (among-flat_map_from (λ (one : Labelled Bytes). written_mentions (sense_in program b) one.of)
          b.header.parameters f x (among b.header.parameters f there)
          (among (written_mentions (sense_in program b) f.of) x c)))

  pub variables_held : VariablesAreHeld program b given
  variables_held written there opened t is h reaches =
      reached_so (written_mentions (sense_in program b) written) (held_mentions program b) more h
      (written_types_reach program opened (params_of b) (types_at program b.place Body) (heads_of program) given
      written t is
      h reaches)
    where
      more : (x : Mention) → Contains (written_mentions (sense_in program b) written) x
          → Contains (held_mentions program b) x
      more x c =
          contains (held_mentions program b) x
          (among-append_right (field_mentions (sense_in program b) b.header.parameters)
          (held_in_block (sense_in program b) b.block) x
          (block_held (sense_in program b) x b.block written (among (types_in_block b.block) written there)
          (among (written_mentions (sense_in program b) written) x c)))

  pub result_handed : ResultIsHanded program b given
  result_handed t is h reaches =
      reached_so (written_mentions (sense_in program b) b.header.result) (handed_mentions program b) more h
      (written_types_reach program [] (params_of b) (types_at program b.place Body) (heads_of program) given
      b.header.result t is h reaches)
    where
      more : (x : Mention) → Contains (written_mentions (sense_in program b) b.header.result) x
          → Contains (handed_mentions program b) x
      more x c =
          contains (handed_mentions program b) x
          (among-append_left (written_mentions (sense_in program b) b.header.result) (handed_by_block b.block) x
          (among (written_mentions (sense_in program b) b.header.result) x c))

  pub arguments_handed : ArgumentsAreHanded program b given
  arguments_handed e there h reaches =
      reached_so (mentions (type_of e)) (handed_mentions program b) more h
      (types_reach program given (type_of e) h reaches)
    where
      more : (x : Mention) → Contains (mentions (type_of e)) x → Contains (handed_mentions program b) x
      more x c =
          contains (handed_mentions program b) x
          (among-append_right (written_mentions (sense_in program b) b.header.result) (handed_by_block b.block) x
          (block_handed x b.block e (among (arguments_by_block b.block) e there) (among (mentions (type_of e)) x c)))
