-- Keys tell instances: the proof of the law that the walk asks for.
use Rattle.std.proofs.Common.{◌≡◌, ℕ, List, [], ◌∷◌, ◌++◌, length, refl, sym, ◌∙◌, append_assoc}
use Rattle.std.specs.Coded.{Coded, coded_list, coded_ℕ}
use Rattle.au_syntax.specs.Plain.{Bytes}
use Rattle.au_type_texts.specs.Keys.{key_of}
use Rattle.au_type_texts.proofs.KeyTellLemmas.{key_one, place_one}
use Rattle.au_type_texts.specs.Given.{Given}
use Rattle.au_closing.specs.Instances.{Instance}
use Rattle.au_closing.specs.Keys.{name_key, given_key, instance_key}

same_front : (a b r s : List ℕ) → length a ≡ length b → a ++ r ≡ b ++ s → (a ≡ b) × (r ≡ s)
same_front [] [] r s size is = (refl, is)
same_front [] (y ∷ b) r s size is = absurd cc
same_front (x ∷ a) [] r s size is = absurd cc
same_front (x ∷ a) (y ∷ b) r s size is =
    let first : x ≡ y = cc in
    let sizes : length a ≡ length b = cc in
    let rests : a ++ r ≡ b ++ s = cc in
    let rest = same_front a b r s sizes rests in
    (λ i. first i ∷ rest.0 i, rest.1)

name_one : (a b : Bytes) (r s : List ℕ) → name_key a ++ r ≡ name_key b ++ s → (a ≡ b) × (r ≡ s)
name_one a b r s is =
    let sizes : length a ≡ length b = cc in
    let rests : a ++ r ≡ b ++ s = cc in
    same_front a b r s sizes rests

given_one : (a b : Given) → given_key a ≡ given_key b → a ≡ b
given_one [] [] is = refl
given_one [] (y ∷ b) is = absurd cc
given_one (x ∷ a) [] is = absurd cc
given_one (x ∷ a) (y ∷ b) is =
    let name = name_one x.0 y.0 (key_of x.1 ++ given_key a) (key_of y.1 ++ given_key b)
    (sym (append_assoc (name_key x.0) (key_of x.1) (given_key a))
    ∙ is
    ∙ append_assoc (name_key y.0) (key_of y.1) (given_key b)) in
    let type = key_one x.1 y.1 (given_key a) (given_key b) name.1 in
    let rest = given_one a b type.1 in
    λ i. (name.0 i, type.0 i) ∷ rest i

pub instance_one : (a b : Instance) → instance_key a ≡ instance_key b → a ≡ b
instance_one a b is =
    let modules : a.of.at.«module» ≡ b.of.at.«module» = cc in
    let decls : a.of.at.decl ≡ b.of.at.decl = cc in
    let rest : name_key a.of.name ++ given_key a.given ≡ name_key b.of.name ++ given_key b.given = cc in
    let place = place_one a.of.at b.of.at modules decls in
    let name = name_one a.of.name b.of.name (given_key a.given) (given_key b.given) rest in
    let given = given_one a.given b.given name.1 in
    λ i. record { of = record { at = place i; name = name.0 i }; given = given i }

-- the code of an instance: that of its key
abbrev pub instance_coded : Coded Instance
instance_coded = record {
  code = λ one. (coded_list coded_ℕ).code (instance_key one);
  inj = λ a b e. instance_one a b ((coded_list coded_ℕ).inj (instance_key a) (instance_key b) e);
}
