-- The test whether a type closes to a closed type, form by form.
use Rattle.std.proofs.Common.{◌≡◌, ◌&&◌, Bool, true, false, Option, None, Some, refl, sym, ap, subst, ◌∙◌}
use Rattle.std.specs.Global.{Global}
use Rattle.std.specs.Option.{option_map}
use Rattle.std.specs.declared.boxed.Box.{Box}
use Rattle.std.proofs.lemmas.Bool.{and_right}
use Rattle.au_types.specs.declared.types.DeclAt.{DeclAt}
use Rattle.au_types.specs.declared.types.Region.{Region}
use Rattle.au_types.specs.declared.types.Ty.{Ty, Unit, Bool as Bool', Int, Text, Param, Named', Read, Read'}
use Rattle.au_types.specs.declared.types.Ty.{Write, Write'}
use Rattle.au_types.specs.Rows.{same_place}
use Rattle.au_types.specs.Types as whole
use Rattle.au_types.specs.Types.{Meaning, Argument, Arguments, of_type, in_region, no_arguments, arguments}
use Rattle.au_types.specs.Views.{meaning}
use Rattle.au_types.proofs.SameLemmas.{place_is, place_self}
use Rattle.au_type_texts.specs.Closing.{closed, all_closed, in_front}
use Rattle.au_type_texts.specs.Same.{same, same_all}
use Rattle.au_type_texts.specs.Types.{ClosedType, ClosedTypes, named, reads, writes, no_types, types}
use Rattle.au_instances.specs.declared.constructors.Constructor.TheVariants as constructors
use Rattle.au_instances.specs.ClosedInstances.{closes_to, all_close_to, types_in}
use Rattle.au_instances.specs.Constructors.{constructor_of, is_constructor}
use Rattle.au_instances.specs.Forms.{arguments_of}

-- closed types in order, if arguments close
closes_all : Option ClosedTypes → ClosedTypes → Bool
closes_all None list = false
closes_all (Some other) list = same_all other list

front_closes : (o : Option ClosedType) (rest : Option ClosedTypes) (t : ClosedType) (list : ClosedTypes) →
    closes_all (in_front o rest) (types t list) ≡ (closes_to o t && closes_all rest list)
unfolding closes_all
front_closes None rest t list = refl
front_closes (Some one) None t list = sym (and_right (same one t) false refl)
front_closes (Some one) (Some others) t list = refl

none_in_front : (o : Option ClosedType) (rest : Option ClosedTypes) → closes_all (in_front o rest) no_types ≡ false
unfolding closes_all
none_in_front None rest = refl
none_in_front (Some one) None = refl
none_in_front (Some one) (Some others) = refl

-- the types among arguments close to closed types exactly where the arguments do
all_close : (args : Arguments) (list : ClosedTypes) → closes_all (all_closed args) list
    ≡ all_close_to (types_in args) list
unfolding closes_all
all_close no_arguments no_types = refl
all_close no_arguments (types t list) = refl
all_close (arguments (of_type t) rest) no_types = none_in_front (closed t) (all_closed rest)
all_close (arguments (of_type t) rest) (types one list) = front_closes (closed t) (all_closed rest) one list
    ∙ ap (λ b. closes_to (closed t) one && b) (all_close rest list)
all_close (arguments (in_region region) rest) list = all_close rest list

named_option : (other at : DeclAt) (o : Option ClosedTypes) (list : ClosedTypes) → other ≡ at →
    closes_to (option_map (named other) o) (named at list) ≡ closes_all o list
unfolding closes_all
named_option other at None list is = refl
named_option other at (Some all) list is =
    ap (λ b. b && same_all all list) (subst (λ p. same_place other p ≡ true) is (place_self other))

-- a declared type
pub named_closes : (t : Meaning) (at : DeclAt) (list : ClosedTypes) →
    is_constructor (constructors.Declared at) (constructor_of t) ≡ true → closes_to (closed t) (named at list)
    ≡ all_close_to (types_in (arguments_of t)) list
named_closes whole.unit at list e = absurd cc
named_closes whole.truth at list e = absurd cc
named_closes (whole.integer kind) at list e = absurd cc
named_closes whole.text at list e = absurd cc
named_closes (whole.parameter name) at list e = absurd cc
named_closes (whole.named other args) at list e = named_option other at (all_closed args) list
    (sym (place_is at other e)) ∙ all_close args list
named_closes (whole.reads to region) at list e = absurd cc
named_closes (whole.writes to region) at list e = absurd cc

-- references
pub reads_close : (o : Option ClosedType) (t : ClosedType) → closes_to (option_map reads o) (reads t) ≡ closes_to o t
reads_close None t = refl
reads_close (Some other) t = refl

pub writes_close : (o : Option ClosedType) (t : ClosedType) → closes_to (option_map writes o) (writes t) ≡ closes_to o t
writes_close None t = refl
writes_close (Some other) t = refl

named_no_reference : (at : DeclAt) (o : Option ClosedTypes) (t : ClosedType) →
    (closes_to (option_map (named at) o) (reads t) ≡ false)
    × (closes_to (option_map (named at) o) (writes t) ≡ false)
named_no_reference at None t = (refl, refl)
named_no_reference at (Some all) t = (refl, refl)

reads_no_writes : (o : Option ClosedType) (t : ClosedType) →
    (closes_to (option_map writes o) (reads t) ≡ false) × (closes_to (option_map reads o) (writes t) ≡ false)
reads_no_writes None t = (refl, refl)
reads_no_writes (Some other) t = (refl, refl)

pub not_reads : (of : Ty) (t : ClosedType) → ((x : Box Ty Global) (r : Region) → of ≡ Read x r → ⊥) →
    closes_to (closed (meaning of)) (reads t) ≡ false
unfolding meaning
not_reads Unit t differs = refl
not_reads Bool' t differs = refl
not_reads (Int kind) t differs = refl
not_reads Text t differs = refl
not_reads (Param name) t differs = refl
not_reads (Named' at shape args) t differs = (named_no_reference at _ t).0
not_reads (Read' p to r) t differs = absurd (differs (record { ptr = p.ptr; alloc = p.alloc; value = to }) r refl)
not_reads (Write' p to r) t differs = (reads_no_writes _ t).0

pub not_writes : (of : Ty) (t : ClosedType) → ((x : Box Ty Global) (r : Region) → of ≡ Write x r → ⊥) →
    closes_to (closed (meaning of)) (writes t) ≡ false
unfolding meaning
not_writes Unit t differs = refl
not_writes Bool' t differs = refl
not_writes (Int kind) t differs = refl
not_writes Text t differs = refl
not_writes (Param name) t differs = refl
not_writes (Named' at shape args) t differs = (named_no_reference at _ t).1
not_writes (Read' p to r) t differs = (reads_no_writes _ t).1
not_writes (Write' p to r) t differs = absurd (differs (record { ptr = p.ptr; alloc = p.alloc; value = to }) r refl)
