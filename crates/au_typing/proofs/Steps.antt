-- What each step of the search takes and gives.
use Rattle.std.proofs.Common.{◌≡◌, Bool, true, false, List, [], ◌∷◌, refl, sym, ap, subst, ◌∙◌, Option, Some}
use Rattle.std.proofs.Common.{None, is_none, Ok, Err, map}
use Rattle.au_base.specs.declared.limits.Limit.{Limit}
use Rattle.au_syntax.specs.Names.{Placed}
use Rattle.au_syntax.specs.Plain.{Bytes, plain_name}
use Rattle.au_types.specs.Same.{same}
use Rattle.au_types.specs.Types.{Meaning}
use Rattle.au_matching.specs.Bindings.{Bindings}
use Rattle.au_typing.specs.Faults.{Noting, ◌>>=◌, Why, check, known_or, different}
use Rattle.au_typing.specs.Good.{Kept}
use Rattle.au_typing.specs.Limits.{are_within, limit_among, types_noted, unless_limit, within}
use Rattle.au_typing.specs.Notes.{Mode, Note, plain_note}
use Rattle.au_typing.specs.Rules.{meets, noted, wanted_note}
use Rattle.au_typing.specs.SearchCalls.{unless_why}

-- ---- steps

pub ok_same : {A : Type 0} (x y : A) → ◌≡◌ {A = Noting A} (Ok x) (Ok y) → x ≡ y
ok_same x y e = cc

pub bind_ok : {A B : Type 0} (r : Noting A) (f : A → Noting B) (y : B) → (r >>= f) ≡ Ok y → (x : A)
    × (r ≡ Ok x) × (f x ≡ Ok y)
bind_ok (Ok x) f y e = (x, refl, e)
bind_ok (Err w) f y e = absurd cc

pub bind_found : {A B : Type 0} {r : Noting A} {x : A} (f : A → Noting B) → r ≡ Ok x → (r >>= f) ≡ f x
bind_found f h = ap (λ r. r >>= f) h

pub check_ok : {A : Type 0} (test : Bool) (cause : Why) (rest : Noting A) (y : A) → check test cause rest
    ≡ Ok y → (test ≡ true) × (rest ≡ Ok y)
check_ok true cause rest y e = (refl, e)
check_ok false cause rest y e = absurd cc

pub check_found : {A : Type 0} {test : Bool} (cause : Why) (rest : Noting A) → test ≡ true →
    check test cause rest ≡ rest
check_found cause rest h = ap (λ b. check b cause rest) h

pub known_ok : {A : Type 0} (cause : Why) (o : Option A) (y : A) → known_or cause o ≡ Ok y → o ≡ Some y
known_ok cause (Some x) y e = ap Some (ok_same x y e)
known_ok cause None y e = absurd cc

pub known_found : {A : Type 0} {o : Option A} {x : A} (cause : Why) → o ≡ Some x → known_or cause o ≡ Ok x
known_found cause h = ap (known_or cause) h

pub unless_ok : {A X : Type 0} (cause : X → Why) (o : Option X) (rest : Noting A) (y : A) →
    unless_why cause o rest ≡ Ok y → (o ≡ None) × (rest ≡ Ok y)
unless_ok cause None rest y e = (refl, e)
unless_ok cause (Some x) rest y e = absurd cc

pub unless_found : {A X : Type 0} {o : Option X} (cause : X → Why) (rest : Noting A) → o ≡ None →
    unless_why cause o rest ≡ rest
unless_found cause rest h = ap (λ o. unless_why cause o rest) h

-- ---- limits

limit_ok : {A : Type 0} (o : Option Limit) (rest : Noting A) (y : A) → unless_limit o rest ≡ Ok y →
    (is_none o ≡ true) × (rest ≡ Ok y)
limit_ok None rest y e = (refl, e)
limit_ok (Some passed) rest y e = absurd cc

limit_found : {A : Type 0} (o : Option Limit) (rest : Noting A) → is_none o ≡ true → unless_limit o rest ≡ rest
limit_found None rest h = refl
limit_found (Some passed) rest h = absurd cc

pub within_ok : {A : Type 0} (types : List Meaning) (rest : Noting A) (y : A) → within types rest ≡ Ok y →
    (are_within types ≡ true) × (rest ≡ Ok y)
within_ok types rest y e = limit_ok (limit_among types) rest y e

pub within_found : {A : Type 0} (types : List Meaning) (rest : Noting A) → are_within types ≡ true →
    within types rest ≡ rest
within_found types rest h = limit_found (limit_among types) rest h

-- ---- notes

abbrev note_with : Mode → Meaning → Option Bindings → Note
note_with mode t s = record { mode = mode; of = t; call = s }

plain_is : (n : Note) → n.call ≡ None → plain_note n.mode n.of ≡ n
plain_is n h = ap (note_with n.mode n.of) (sym h)

pub wanted_found : (mode : Mode) (t : Meaning) → meets mode t ≡ true → wanted_note mode t ≡ Ok (plain_note mode t)
wanted_found None t h = refl
wanted_found (Some wanted) t h = check_found (different wanted t) (Ok (plain_note (Some wanted) t)) h

pub wanted_ok : (mode : Mode) (t : Meaning) (n : Note) → wanted_note mode t ≡ Ok n → (meets mode t ≡ true)
    × (plain_note mode t ≡ n)
wanted_ok None t n e = (refl, ok_same (plain_note None t) n e)
wanted_ok (Some wanted) t n e =
    let g = check_ok (same wanted t) (different wanted t) (Ok (plain_note (Some wanted) t)) n e in
    (g.0, ok_same (plain_note (Some wanted) t) n g.1)

pub wanted_kept : (n : Note) → Kept n → wanted_note n.mode n.of ≡ Ok n
wanted_kept n k = wanted_found n.mode n.of k.wanted ∙ ap Ok (plain_is n k.plain)

pub noted_found : (n : Note) (t : Meaning) → Kept n → n.of ≡ t → noted n.mode t ≡ Ok n
noted_found n t k is =
    ap (noted n.mode) (sym is)
    ∙ (within_found (types_noted n.mode n.of []) (wanted_note n.mode n.of) k.limited ∙ wanted_kept n k)

-- a note is kept and has this mode and this type
abbrev pub IsNote : Mode → Meaning → Note → Type 0
IsNote mode t n = Kept n × (n.mode ≡ mode) × (n.of ≡ t)

pub is_note : (mode : Mode) (t : Meaning) (n : Note) → are_within (types_noted mode t []) ≡ true →
    wanted_note mode t ≡ Ok n → IsNote mode t n
is_note mode t n limited e =
    let g = wanted_ok mode t n e in
    let kept : Kept (plain_note mode t) = record { limited = limited; wanted = g.0; plain = refl } in
    subst (λ m. Kept m × (m.mode ≡ mode) × (m.of ≡ t)) g.1 (kept, refl, refl)

pub noted_ok : (mode : Mode) (t : Meaning) (n : Note) → noted mode t ≡ Ok n → IsNote mode t n
noted_ok mode t n e =
    let g = within_ok (types_noted mode t []) (wanted_note mode t) n e in
    is_note mode t n g.0 g.1

-- ---- names

pub names_kept : (fields : List (Placed Bytes)) → map (plain_name (λ (name : Bytes). name)) fields ≡ fields
names_kept [] = refl
names_kept (field ∷ fields) = ap (λ rest. field ∷ rest) (names_kept fields)
