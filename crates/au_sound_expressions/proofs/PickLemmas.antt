-- The types of values that are found by names.
use Rattle.std.proofs.Common.{◌≡◌, inl, inr, suc, List, [], ◌∷◌, length, refl, sym, ap, ap₂, ◌∙◌}
use Rattle.au_types.specs.Types.{Meaning}
use Rattle.au_syntax.specs.Plain.{Bytes}
use Rattle.au_memory.specs.Forests.{Made}
use Rattle.au_lending.specs.Records.{types_made}
use Rattle.au_meaning.specs.Worlds.{Value}
use Rattle.au_running_judgements.specs.Binding.{AreUnder, IsUnder}
use Rattle.au_running_judgements.specs.Picking.{AreTypesUnder, IsTypeUnder}

pub length_types : (made : Made) → length made ≡ length (types_made made)
length_types [] = refl
length_types (v ∷ vs) = ap suc (length_types vs)

type_under : (name : Bytes) (names : List Bytes) (vs : Made) (one : Value × Meaning) (t : Meaning)
    → IsUnder name names vs one → IsTypeUnder name names (types_made vs) t → one.1 ≡ t
type_under name [] vs one t is typed = absurd is
type_under name (n ∷ names) [] one t is typed = absurd is
type_under name (n ∷ names) (v ∷ vs) one t (inl is) (inl typed) =
    ap (λ (v : Value × Meaning). v.1) is.1 ∙ sym typed.1
type_under name (n ∷ names) (v ∷ vs) one t (inl is) (inr typed) = absurd (typed.0 is.0)
type_under name (n ∷ names) (v ∷ vs) one t (inr is) (inl typed) = absurd (is.0 typed.0)
type_under name (n ∷ names) (v ∷ vs) one t (inr is) (inr typed) = type_under name names vs one t is.1 typed.1

-- the types of what stands under names
pub types_under : (wanted names : List Bytes) (vs ws : Made) (ts : List Meaning) → AreUnder wanted names vs ws
    → AreTypesUnder wanted names (types_made vs) ts → types_made ws ≡ ts
types_under [] names vs [] [] are typed = refl
types_under [] names vs [] (t ∷ ts) are typed = absurd typed
types_under [] names vs (w ∷ ws) ts are typed = absurd are
types_under (name ∷ wanted) names vs [] ts are typed = absurd are
types_under (name ∷ wanted) names vs (w ∷ ws) [] are typed = absurd typed
types_under (name ∷ wanted) names vs (w ∷ ws) (t ∷ ts) are typed =
    ap₂ (λ (u : Meaning) (us : List Meaning). u ∷ us) (type_under name names vs w t are.0 typed.0)
    (types_under wanted names vs ws ts are.1 typed.1)
