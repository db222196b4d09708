-- The instance that a method of the text is of, as its class and its type are written.
use Rattle.std.proofs.Common.{◌≡◌, ◌||◌, Bool, true, false, true≢false, cond, List, [], ◌∷◌, find, Option, None, Some}
use Rattle.std.proofs.Common.{refl, sym, ap, ◌∙◌, subst, ℕ}
use Rattle.std.specs.Prelude.{Contains}
use Rattle.std.specs.List.{flat_map}
use Rattle.std.specs.Option.{option_map, option_or}
use Rattle.std.specs.Str.{bytes_eq}
use Rattle.std.proofs.lemmas.Bool.{and_parts}
use Rattle.std.proofs.lemmas.List.Elements.{Contains-append_left, Contains-append_right}
use Rattle.std.proofs.lemmas.Option.{none-some, same_Some}
use Rattle.std.proofs.lemmas.Slice.Eq.{bytes_eq-Decides}
use Rattle.au_base.proofs.ListLemmas.{Contains-first, Contains-rest}
use Rattle.au_syntax.specs.declared.declarations.Universe.{Universe}
use Rattle.au_syntax.specs.declared.declarations.Universe.TheVariants as universes
use Rattle.au_syntax.specs.declared.types.Access.{Access}
use Rattle.au_syntax.specs.declared.types.Access.TheVariants as access
use Rattle.au_syntax.specs.Modules.{Constrained, constant, opaque_type, record_type, union_type, function}
use Rattle.au_syntax.specs.Modules.{class, instance, constant_body, function_body, instance_body}
use Rattle.au_syntax.specs.Names.{Placed}
use Rattle.au_syntax.specs.Plain.{Bytes, PlainDeclaration}
use Rattle.au_syntax.specs.Types.{WrittenType, named, reference}
use Rattle.au_types.specs.declared.headings.Head.{Head}
use Rattle.au_types.specs.declared.parameters.Parameter.{Parameter}
use Rattle.au_types.specs.declared.types.DeclAt.{DeclAt}
use Rattle.au_types.specs.declared.types.Region.{Region}
use Rattle.au_types.specs.Meant.{Given, all_given, applied, arguments_meant, meant, refers, region_of, span_of, span_with}
use Rattle.au_types.specs.Rows.{head_of}
use Rattle.au_types.specs.Senses.{Sense, a_class, a_region, a_span, a_type, built_in, declared, declared_sense, outer_sense}
use Rattle.au_types.specs.Senses.{parameter_sense, sense_of}
use Rattle.au_types.specs.Tables as tables
use Rattle.au_types.specs.Types as mean
use Rattle.au_types.specs.Types.{Arguments, Meaning}
use Rattle.au_types.specs.Universes.{universe_in}
use Rattle.au_types.proofs.SameLemmas.{place_is}
use Rattle.au_names.proofs.AmongLemmas.{Among}
use Rattle.au_promises.specs.Agreeing.{Sight, same_declaration}
use Rattle.au_promises.specs.Wording.{declaration_of, neither, same_wording, same_written}
use Rattle.au_judged_types.specs.Meanings.{class_in, class_meant, written_params}
use Rattle.au_formed.specs.Good.{IsWellMade}
use Rattle.au_formed.specs.Writings as writing
use Rattle.au_formed.specs.Writings.{Writing, generic_writings, instance_writings, method_writings, writings}
use Rattle.au_instances.specs.declared.constructors.Constructor.{Constructor}
use Rattle.au_instances.specs.declared.constructors.Constructor.TheVariants as constructors
use Rattle.au_instances.specs.Constructors.{constructor_of}
use Rattle.au_typing.specs.Trees.{NotedDeclaration, NotedMethod, erase_declaration}
use Rattle.au_classes.proofs.ListLemmas.{found_passes}
use Rattle.au_closing.specs.Bodies.{BodyOf, body_in, is_method, method_body}
use Rattle.au_closing_laws.proofs.GatheredLemmas.{among_map}
use Rattle.au_caps_lists.specs.Bodies.{Bodied, bodied_in, method_bodied}
use Rattle.au_caps.specs.Making.{constructor_in, constructor_written}
use Rattle.au_caps_laws.specs.Births.{run_as}

-- ---- the instance

-- the type parameters of an instance of a body, its class and its type
abbrev pub home_written : PlainDeclaration → Option (List (Constrained Bytes) × (Placed Bytes × WrittenType))
home_written (instance_body at gs n t ms) = Some (gs, (n, t))
home_written other = None

-- a method is of an instance with these
pub record HomeIs (place : ℕ) (gs : List (Constrained Bytes)) (n : Placed Bytes) (t : WrittenType) (b : Bodied) : Type 0
  where
    pub place_is : b.place ≡ place
    pub generics : b.generics ≡ gs
    pub home : b.home ≡ Some (record { class = n.name; of = t })

-- the methods of an instance are of it
pub home_there : (place : ℕ) (x : NotedDeclaration) (b : Bodied) → Among b (bodied_in place x)
    → (gs : List (Constrained Bytes)) (n : Placed Bytes) (t : WrittenType)
    → home_written (erase_declaration x) ≡ Some (gs, (n, t)) → HomeIs place gs n t b
home_there place (instance_body at gs1 n1 t1 ms) b m gs n t e =
    let its = among_map (method_bodied place (record { class = n1.name; of = t1 }) gs1) b ms m in
    let same = same_Some (gs1, (n1, t1)) (gs, (n, t)) e in
    record {
      place_is = ap (λ (y : Bodied). y.place) its.2;
      generics = ap (λ (y : Bodied). y.generics) its.2
          ∙ ap (λ (p : List (Constrained Bytes) × (Placed Bytes × WrittenType)). p.0) same;
      home = ap (λ (y : Bodied). y.home) its.2
          ∙ ap (λ (p : List (Constrained Bytes) × (Placed Bytes × WrittenType)).
          Some (record { class = p.1.0.name; of = p.1.1 })) same;
    }
home_there place (constant at n1 t1) b m gs n t e = absurd m
home_there place (opaque_type at n1 ps u) b m gs n t e = absurd m
home_there place (record_type at n1 ps u fields) b m gs n t e = absurd m
home_there place (union_type at n1 ps u cases) b m gs n t e = absurd m
home_there place (function at gs1 h) b m gs n t e = absurd m
home_there place (class at n1 p hs) b m gs n t e = absurd m
home_there place (instance at gs1 n1 t1) b m gs n t e = absurd m
home_there place (constant_body at n1 t1 v) b m gs n t e = absurd m
home_there place (function_body at gs1 h block stop) b m gs n t e = absurd (none-some (gs, (n, t)) e)

-- a method that is run for a name has it
pub header_named : (place : ℕ) (name : Bytes) (x : NotedDeclaration) (b : Bodied)
    → body_in place name x ≡ Some (run_as b) → (gs : List (Constrained Bytes)) (n : Placed Bytes) (t : WrittenType)
    → home_written (erase_declaration x) ≡ Some (gs, (n, t)) → b.header.name.name ≡ name
header_named place name (instance_body at gs1 n1 t1 ms) b e gs n t is =
    by (find (is_method name) ms) refl e
  where
    by : (o : Option NotedMethod) → find (is_method name) ms ≡ o
        → option_map (method_body place gs1) o ≡ Some (run_as b) → b.header.name.name ≡ name
    by None found e = absurd (none-some (run_as b) e)
    by (Some m) found e =
        sym (ap (λ (y : BodyOf). y.header.name.name) (same_Some (method_body place gs1 m) (run_as b) e))
        ∙ sym ((bytes_eq-Decides name m.header.name.name).0 (found_passes (is_method name) ms m found).1)
header_named place name (constant at n1 t1) b e gs n t is = absurd (none-some (run_as b) e)
header_named place name (opaque_type at n1 ps u) b e gs n t is = absurd (none-some (run_as b) e)
header_named place name (record_type at n1 ps u fields) b e gs n t is = absurd (none-some (run_as b) e)
header_named place name (union_type at n1 ps u cases) b e gs n t is = absurd (none-some (run_as b) e)
header_named place name (function at gs1 h) b e gs n t is = absurd (none-some (run_as b) e)
header_named place name (class at n1 p hs) b e gs n t is = absurd (none-some (run_as b) e)
header_named place name (instance at gs1 n1 t1) b e gs n t is = absurd (none-some (run_as b) e)
header_named place name (constant_body at n1 t1 v) b e gs n t is = absurd (none-some (run_as b) e)
header_named place name (function_body at gs1 h block stop) b e gs n t is = absurd (none-some (gs, (n, t)) is)

-- ---- what is well made

module _ (visible : List (Bytes × DeclAt)) (heads : List (DeclAt × Head)) (gs : List (Constrained Bytes))
    (n : Placed Bytes) (t : WrittenType) where
  -- the class of an instance means one, and its type means a type
  pub record MeansSome : Type 0 where
    pub its_class : DeclAt
    pub class_means : class_meant (written_params gs) visible heads n.name ≡ Some its_class
    pub its_type : Meaning
    pub type_means : meant [] (written_params gs) visible heads t ≡ Some its_type

  pub means_some : (d : PlainDeclaration) → home_written d ≡ Some (gs, (n, t)) → IsWellMade visible heads d → MeansSome
  means_some (instance_body at gs1 n1 t1 ms) e made = record {
    its_class = names.0;
    class_means = ap (λ (p : List (Constrained Bytes) × (Placed Bytes × WrittenType)).
        class_meant (written_params p.0) visible heads p.1.0.name) (sym same) ∙ ap class_in names.1;
    its_type = type_formed.0;
    type_means = ap (λ (p : List (Constrained Bytes) × (Placed Bytes × WrittenType)).
        meant [] (written_params p.0) visible heads p.1.1) (sym same) ∙ type_formed.1;
  }
    where
      same : ◌≡◌ {A = List (Constrained Bytes) × (Placed Bytes × WrittenType)} (gs1, (n1, t1)) (gs, (n, t))
      same = same_Some (gs1, (n1, t1)) (gs, (n, t)) e

      both : (w : Writing) → Contains (writing.a_class n1 ∷ writing.a_type t1 ∷ []) w
          → Contains (writings (instance_body at gs1 n1 t1 ms)) w
      both w c =
          Contains-append_left (instance_writings gs1 n1 t1) (flat_map method_writings ms) w
          (Contains-append_right (flat_map generic_writings gs1) (writing.a_class n1 ∷ writing.a_type t1 ∷ []) w c)

      names : (c : DeclAt) × (sense_of [] (written_params gs1) visible heads n1.name ≡ Some (a_class c))
      names = made.written (writing.a_class n1)
          (both (writing.a_class n1) (Contains-first (writing.a_class n1) (writing.a_type t1 ∷ [])))

      type_formed : (m : Meaning) × (meant [] (written_params gs1) visible heads t1 ≡ Some m)
      type_formed =
          let its = made.written (writing.a_type t1)
          (both (writing.a_type t1) (Contains-rest (writing.a_class n1) (writing.a_type t1 ∷ []) (writing.a_type t1)
          (Contains-first (writing.a_type t1) []))) in
          (its.0, its.1)
  means_some (constant at n1 t1) e made = absurd (none-some (gs, (n, t)) e)
  means_some (opaque_type at n1 ps u) e made = absurd (none-some (gs, (n, t)) e)
  means_some (record_type at n1 ps u fields) e made = absurd (none-some (gs, (n, t)) e)
  means_some (union_type at n1 ps u cases) e made = absurd (none-some (gs, (n, t)) e)
  means_some (function at gs1 h) e made = absurd (none-some (gs, (n, t)) e)
  means_some (class at n1 p hs) e made = absurd (none-some (gs, (n, t)) e)
  means_some (instance at gs1 n1 t1) e made = absurd (none-some (gs, (n, t)) e)
  means_some (constant_body at n1 t1 v) e made = absurd (none-some (gs, (n, t)) e)
  means_some (function_body at gs1 h block stop) e made = absurd (none-some (gs, (n, t)) e)

-- ---- constructors of written types

span_is : (o : Option Meaning) (r : Option Region) (m : Meaning) → span_of o r ≡ Some m → m ≡ mean.text
span_is None r m e = absurd (none-some m e)
span_is (Some t) None m e = absurd (none-some m e)
span_is (Some t) (Some region) m e = by _ e
  where
    by : (b : Bool) → cond b (Some mean.text) None ≡ Some m → m ≡ mean.text
    by true e = sym (same_Some mean.text m e)
    by false e = absurd (none-some m e)

span_text : (args : List Given) (m : Meaning) → span_with args ≡ Some m → m ≡ mean.text
span_text [] m e = absurd (none-some m e)
span_text (a ∷ []) m e = absurd (none-some m e)
span_text (a ∷ b ∷ []) m e = span_is a.as_type b.as_region m e
span_text (a ∷ b ∷ c ∷ more) m e = absurd (none-some m e)

refers_unheaded : (kind : Access) (o : Option Meaning) (r : Option Region) (m : Meaning) → refers kind o r ≡ Some m
    → constructor_of m ≡ None
refers_unheaded access.Read (Some t) (Some region) m e =
    ap constructor_of (sym (same_Some (mean.reads t region) m e))
refers_unheaded access.Write (Some t) (Some region) m e =
    ap constructor_of (sym (same_Some (mean.writes t region) m e))
refers_unheaded access.Read None r m e = absurd (none-some m e)
refers_unheaded access.Write None r m e = absurd (none-some m e)
refers_unheaded access.Read (Some t) None m e = absurd (none-some m e)
refers_unheaded access.Write (Some t) None m e = absurd (none-some m e)

applied_constructor : (o : Option Sense) (args : List Given) (m : Meaning) → applied o args ≡ Some m
    → (one : Constructor) → constructor_of m ≡ Some one → constructor_in o ≡ Some one
applied_constructor None args m e one is = absurd (none-some m e)
applied_constructor (Some (a_type t)) [] m e one is = ap constructor_of (same_Some t m e) ∙ is
applied_constructor (Some (a_type t)) (a ∷ more) m e one is = absurd (none-some m e)
applied_constructor (Some a_span) args m e one is = ap constructor_of (sym (span_text args m e)) ∙ is
applied_constructor (Some (a_region r)) args m e one is = absurd (none-some m e)
applied_constructor (Some (declared at expected)) args m e one is = by (arguments_meant expected args) e
  where
    by : (o : Option Arguments) → option_map (mean.named at) o ≡ Some m → Some (constructors.Declared at) ≡ Some one
    by None e = absurd (none-some m e)
    by (Some these) e = ap constructor_of (same_Some (mean.named at these) m e) ∙ is
applied_constructor (Some (a_class at)) args m e one is = absurd (none-some m e)

-- the constructor of what a written type means is that of the written type
pub constructor_meant : (params : List Parameter) (visible : List (Bytes × DeclAt)) (heads : List (DeclAt × Head))
    (t : WrittenType) (m : Meaning) → meant [] params visible heads t ≡ Some m → (one : Constructor)
    → constructor_of m ≡ Some one → constructor_written (sense_of [] params visible heads) t ≡ Some one
unfolding meant all_given
constructor_meant params visible heads (named name args) m e one is =
    applied_constructor (sense_of [] params visible heads name.name) (all_given [] params visible heads args) m e one is
constructor_meant params visible heads (reference at kind target region) m e one is =
    absurd (none-some one (sym (refers_unheaded kind (meant [] params visible heads target)
    (region_of (sense_of [] params visible heads region.name)) m e) ∙ is))

-- ---- one class

-- a name that is of the class of another means the same declaration
pub same_declared : (a b : Bytes) (y : DeclAt) (o : Option DeclAt) → same_declaration a b (Some y) o ≡ true → o ≡ Some y
same_declared a b y None e = absurd (true≢false (sym e))
same_declared a b y (Some z) e = ap (λ (x : DeclAt). Some x) (sym (place_is y z e))

same_undeclared : (a b : Bytes) (o : Option DeclAt) → same_declaration a b None o ≡ true → a ≡ b
same_undeclared a b None e = (bytes_eq-Decides a b).0 e
same_undeclared a b (Some z) e = absurd (true≢false (sym e))

-- ---- one type

no_constructor : (name : Bytes) (universe : Universe) → constructor_in (Some (parameter_sense name universe)) ≡ None
no_constructor name universes.Free = refl
no_constructor name universes.Linear = refl
no_constructor name universes.AnyType = refl
no_constructor name universes.Region = refl

abbrev Undeclared : List (Bytes × Sense) → Type 0
Undeclared [] = Unit {0}
Undeclared (one ∷ rest) = (declaration_of (Some one.1) ≡ None) × Undeclared rest

built_in_undeclared : Undeclared built_in
built_in_undeclared =
    (refl, (refl, (refl, (refl, (refl, (refl, (refl, (refl, (refl, (refl, (refl, (refl, (refl, tt)))))))))))))

found_undeclared : (xs : List (Bytes × Sense)) → Undeclared xs → (name : Bytes) (sense : Sense)
    → tables.find name xs ≡ Some sense → declaration_of (Some sense) ≡ None
found_undeclared [] none name sense e = absurd (none-some sense e)
found_undeclared (one ∷ rest) none name sense e = by (bytes_eq name one.0) e (found_undeclared rest none.1 name sense)
  where
    by : (b : Bool) → cond b (Some one.1) (tables.find name rest) ≡ Some sense
        → (tables.find name rest ≡ Some sense → declaration_of (Some sense) ≡ None) → declaration_of (Some sense) ≡ None
    by true e later = subst (λ x. declaration_of (Some x) ≡ None) (same_Some one.1 sense e) none.0
    by false e later = later e

module _ (sight : Sight) (params : List Parameter) where
  abbrev heads : List (DeclAt × Head)
  heads = sight.rows

  abbrev promised : Bytes → Option Sense
  promised = sense_of [] params sight.interface heads

  abbrev defined : Bytes → Option Sense
  defined = sense_of [] params sight.body heads

  -- a name in the body that means the declaration of a type, where it is one
  declared_constructor : (o : Option Sense) (args : List Given) (m : Meaning) (y : DeclAt)
      → declaration_of o ≡ Some y → applied o args ≡ Some m → constructor_in o ≡ Some (constructors.Declared y)
  declared_constructor None args m y is e = absurd (none-some y is)
  declared_constructor (Some (a_type t)) args m y is e = absurd (none-some y is)
  declared_constructor (Some a_span) args m y is e = absurd (none-some y is)
  declared_constructor (Some (a_region r)) args m y is e = absurd (none-some y is)
  declared_constructor (Some (declared at expected)) args m y is e =
      ap (λ (x : DeclAt). Some (constructors.Declared x)) (same_Some at y is)
  declared_constructor (Some (a_class at)) args m y is e = absurd (none-some m e)

  -- what a name means, by what it is as a type parameter, built in and among what is visible
  abbrev sensed : Bytes → Option Universe → Option Sense → Option DeclAt → Option Sense
  sensed a u s o = option_or (option_map (parameter_sense a) u) (option_or s (option_map (declared_sense heads) o))

  -- two names that are one word have one constructor
  word_constructor : (a b : Bytes) (args : List Given) (m : Meaning) (one : Constructor)
      → same_declaration a b (declaration_of (promised a)) (declaration_of (defined b)) ≡ true
      → constructor_in (promised a) ≡ Some one → applied (defined b) args ≡ Some m → constructor_in (defined b)
      ≡ Some one
  word_constructor a b args m one word is means =
      by (universe_in params a) refl
      word is
    where
      of_head : (y : DeclAt) (h : Option Head) → head_of heads y ≡ h
          → same_declaration a b (declaration_of (Some (declared_sense heads y))) (declaration_of (defined b)) ≡ true
          → constructor_in (Some (declared_sense heads y)) ≡ Some one → constructor_in (defined b) ≡ Some one
      of_head y None at word is = absurd (none-some one (sym (unheaded at) ∙ is))
        where
          unheaded : head_of heads y ≡ None → constructor_in (Some (declared_sense heads y)) ≡ None
          unheaded e = rw e refl
      of_head y (Some head) at word is =
          declared_constructor (defined b) args m y
          (same_declared a b y (declaration_of (defined b))
          (sym (ap (λ (o : Option DeclAt). same_declaration a b o (declaration_of (defined b))) (declares at)) ∙
          word)) means
          ∙ sym (constructs at) ∙ is
        where
          declares : head_of heads y ≡ Some head → declaration_of (Some (declared_sense heads y)) ≡ Some y
          declares e = rw e refl

          constructs : head_of heads y ≡ Some head → constructor_in (Some (declared_sense heads y))
              ≡ Some (constructors.Declared y)
          constructs e = rw e refl

      visible_too : (o : Option DeclAt)
          → same_declaration a b (declaration_of (option_map (declared_sense heads) o)) (declaration_of (defined b))
          ≡ true
          → constructor_in (option_map (declared_sense heads) o) ≡ Some one → constructor_in (defined b) ≡ Some one
      visible_too None word is = absurd (none-some one is)
      visible_too (Some y) word is = of_head y (head_of heads y) refl word is

      built : universe_in params a ≡ None → (s : Option Sense) → tables.find a built_in ≡ s
          → same_declaration a b (declaration_of (sensed a None s (tables.find a sight.interface)))
          (declaration_of (defined b)) ≡ true
          → constructor_in (sensed a None s (tables.find a sight.interface)) ≡ Some one → constructor_in (defined b)
          ≡ Some one
      built none None at word is = visible_too (tables.find a sight.interface) word is
      built none (Some s) at word is =
          let same : a ≡ b = same_undeclared a b (declaration_of (defined b))
          (sym (ap (λ (o : Option DeclAt). same_declaration a b o (declaration_of (defined b)))
          (found_undeclared built_in built_in_undeclared a s at)) ∙ word) in
          ap (λ (x : Bytes). constructor_in (defined x)) (sym same)
          ∙ ap (λ (u : Option Universe). constructor_in (option_or (option_map (parameter_sense a) u)
          (outer_sense sight.body heads a))) none
          ∙ ap (λ (o : Option Sense). constructor_in (option_or o
          (option_map (declared_sense heads) (tables.find a sight.body)))) at
          ∙ is

      by : (u : Option Universe) → universe_in params a ≡ u
          → same_declaration a b (declaration_of (sensed a u (tables.find a built_in) (tables.find a sight.interface)))
          (declaration_of (defined b)) ≡ true
          → constructor_in (sensed a u (tables.find a built_in) (tables.find a sight.interface)) ≡ Some one
          → constructor_in (defined b) ≡ Some one
      by (Some universe) at word is = absurd (none-some one (sym (no_constructor a universe) ∙ is))
      by None at word is = built at (tables.find a built_in) refl word is

  -- two written types that are the same word for word have one constructor
  pub wording_constructor : (t u : WrittenType) (m : Meaning) (one : Constructor)
      → same_wording sight params params t u ≡ true → constructor_written promised t ≡ Some one
      → meant [] params sight.body heads u ≡ Some m → constructor_written defined u ≡ Some one
  unfolding meant all_given
  wording_constructor (named a args) (named b others) m one word is means =
      word_constructor a.name b.name (all_given [] params sight.body heads others) m one (and_parts _ _ word).0 is means
  wording_constructor (named a args) (reference at kind target region) m one word is means =
      absurd (true≢false (sym word))
  wording_constructor (reference at kind target region) u m one word is means = absurd (none-some one is)

  -- so have those of which the first means something
  pub written_constructor : (t u : WrittenType) (m n : Meaning) (one : Constructor)
      → same_written sight params params t u ≡ true → meant [] params sight.interface heads t ≡ Some n
      → constructor_of n ≡ Some one → meant [] params sight.body heads u ≡ Some m
      → constructor_written defined u ≡ Some one
  written_constructor t u m n one same first is means =
      wording_constructor t u m one
      (by (same_wording sight params params t u)
      (ap (λ (o : Option Meaning). same_wording sight params params t u
      || neither o (meant [] params sight.body heads u)) (sym first) ∙ same))
      (constructor_meant params sight.interface heads t n first one is) means
    where
      by : (b : Bool) → (b || neither (Some n) (meant [] params sight.body heads u)) ≡ true → b ≡ true
      by true e = refl
      by false e = absurd (true≢false (sym e))
