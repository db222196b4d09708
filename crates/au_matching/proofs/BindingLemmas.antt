-- What look-ups find in lists of bindings, and that look-ups decide lists in order.
use Rattle.std.proofs.Common.{◌≡◌, ℕ, Bool, true, false, cond, T, List, [], ◌∷◌, refl, sym, ap, subst, ◌∙◌}
use Rattle.std.specs.Prelude.{Option, Some, None}
use Rattle.std.specs.Cmp.Lexicographic.{slice_cmp, nat_list_cmp_total}
use Rattle.std.specs.FinMap.{nat_cmp-IsAntisymmetric, slice_cmp-IsAntisymmetric}
use Rattle.std.specs.FinMap.Entries.{find, is_sorted-put, find-put, same_entries}
use Rattle.std.specs.Ordering.{nat_cmp}
use Rattle.std.specs.Str.{bytes_eq}
use Rattle.std.proofs.lemmas.Map.Text.{is_eq-slice_cmp}
use Rattle.std.proofs.lemmas.Slice.Eq.{bytes_eq-Decides}
use Rattle.au_types.specs.Types.{Argument}
use Rattle.au_matching.specs.Bindings.{Bindings, value_of, IsInOrder, with_pair, Extends}

-- a look-up by equal bytes is one by the order of the bytes
value_is_find : (name : List ℕ) (pairs : Bindings) → value_of name pairs ≡ find (slice_cmp nat_cmp) name pairs
value_is_find name [] = refl
value_is_find name (p ∷ ps) = λ i. cond (sym (is_eq-slice_cmp name p.0) i) (Some p.1) (value_is_find name ps i)

-- what is found once a pair is put
pub value_of-with : (name other : List ℕ) (value : Argument) (pairs : Bindings) →
    value_of name (with_pair other value pairs) ≡ cond (bytes_eq name other) (Some value) (value_of name pairs)
value_of-with name other value pairs =
    value_is_find name (with_pair other value pairs)
    ∙ find-put (slice_cmp nat_cmp) nat_list_cmp_total name other value pairs
    ∙ (λ i. cond (is_eq-slice_cmp name other i) (Some value) (sym (value_is_find name pairs) i))

pub value_of-with_same : (name : List ℕ) (value : Argument) (pairs : Bindings) →
    value_of name (with_pair name value pairs) ≡ Some value
value_of-with_same name value pairs =
    value_of-with name name value pairs ∙ ap (λ b. cond b (Some value) (value_of name pairs))
    ((bytes_eq-Decides name name).1 refl)

-- ---- the order of names

true_of : (b : Bool) → T b → b ≡ true
true_of true h = refl
true_of false h = absurd h

holds : (b : Bool) → b ≡ true → T b
holds b e = subst T (sym e) tt

pub in_order-with : (name : List ℕ) (value : Argument) (pairs : Bindings) → IsInOrder pairs →
    IsInOrder (with_pair name value pairs)
in_order-with name value pairs h =
    true_of _ (is_sorted-put (slice_cmp nat_cmp) nat_list_cmp_total name value pairs (holds _ h))

-- two lists in order that answer alike are one
pub same_lists : (first second : Bindings) → IsInOrder first → IsInOrder second →
    ((name : List ℕ) → value_of name first ≡ value_of name second) → first ≡ second
same_lists first second g h alike =
    same_entries (slice_cmp nat_cmp) nat_list_cmp_total (slice_cmp-IsAntisymmetric nat_cmp-IsAntisymmetric)
    first second (holds _ g) (holds _ h)
    (λ name. sym (value_is_find name first) ∙ alike name ∙ value_is_find name second)

-- ---- lists that go on from others

pub extends_self : (s : Bindings) → Extends s s
extends_self s name value e = e

pub extends_on : (a b c : Bindings) → Extends a b → Extends b c → Extends a c
extends_on a b c first second name value e = second name value (first name value e)

-- two lists in order, each of which gives what the other one gives, are one
pub extend_each_other : (first second : Bindings) → IsInOrder first → IsInOrder second →
    Extends first second → Extends second first → first ≡ second
extend_each_other first second g h there back =
    same_lists first second g h (λ name. by name (value_of name first) (value_of name second) refl refl)
  where
    by : (name : List ℕ) (a b : Option Argument) → value_of name first ≡ a → value_of name second ≡ b →
        value_of name first ≡ value_of name second
    by name (Some value) b e d = e ∙ sym (there name value e)
    by name None None e d = e ∙ sym d
    by name None (Some value) e d = back name value d ∙ sym d

-- a name that stands for nothing yet
pub extends_with : (name : List ℕ) (value : Argument) (s : Bindings) → value_of name s ≡ None →
    Extends s (with_pair name value s)
extends_with name value s none other known e = value_of-with other name value s ∙ by (bytes_eq other name) refl
  where
    by : (b : Bool) → bytes_eq other name ≡ b → cond b (Some value) (value_of other s) ≡ Some known
    by true is =
        let gone : value_of other s ≡ None = ap (λ n. value_of n s) ((bytes_eq-Decides other name).0 is) ∙ none in
        absurd cc
    by false is = e

-- what goes on from a list and gives a name this value goes on from the list with this pair
pub with_extends : (name : List ℕ) (value : Argument) (s r : Bindings) → Extends s r →
    value_of name r ≡ Some value → Extends (with_pair name value s) r
with_extends name value s r goes_on known other found e =
    by (bytes_eq other name) refl (sym (value_of-with other name value s) ∙ e)
  where
    by : (b : Bool) → bytes_eq other name ≡ b → cond b (Some value) (value_of other s) ≡ Some found →
        value_of other r ≡ Some found
    by true is d = ap (λ n. value_of n r) ((bytes_eq-Decides other name).0 is) ∙ known ∙ d
    by false is d = goes_on other found d
