-- No name of a body is declared again, nor are its type parameters, which are in a block that is open before it.
use Rattle.std.proofs.Common.{◌≡◌, ℕ, zero, suc, Bool, true, false, cond, List, [], ◌∷◌, ◌++◌, map, find, flat_map}
use Rattle.std.proofs.Common.{Some, refl, sym, subst, ◌∙◌, append_assoc, append-nil}
use Rattle.std.specs.Prelude.{slice_get}
use Rattle.std.proofs.lemmas.Option.{none-some, same_Some}
use Rattle.au_judged_bodies.specs.Bodies.{is_method}
use Rattle.au_rules.specs.declared.marks.Kind.{Kind}
use Rattle.au_rules.specs.declared.marks.Kind.TheVariants.{Callables, Values}
use Rattle.au_rules.specs.declared.marks.Mark.{Mark}
use Rattle.au_rules.specs.declared.marks.Mark.TheVariants.{Opens}
use Rattle.au_rules.specs.declared.marks.Role.TheVariants.{Definition}
use Rattle.au_rules.specs.Marks.{block_marks, declared, enclosed, function_marks, generic_mark, labelled_mark}
use Rattle.au_rules.specs.Marks.{method_body_marks}
use Rattle.au_rules.specs.Once.{AreNew}
use Rattle.au_syntax.specs.Modules.{Constrained, Header}
use Rattle.au_syntax.specs.Plain.{Bytes, PlainMethod, PlainStatements}
use Rattle.au_syntax.specs.Types.{Labelled}
use Rattle.au_judged_bodies.specs.Trees.{NotedMethod, erase_block, erase_method}
use Rattle.au_judged_bodies.proofs.MarkLemmas.{Neutral, Stays, inner_new, left_new, neutral_all, neutral_enclosed}
use Rattle.au_judged_bodies.proofs.MarkLemmas.{neutral_join, neutral_stays, right_new, stays_on, stays_open}
use Rattle.au_judged_bodies.specs.Asked.{AreInBlock}

-- ---- lists of marks

-- what one item of a list has is new behind what those before it have
pub item_new : {A : Type 0} (f : A → List Mark) (foreign : Kind → Bytes → Bool) (before : List Mark) (xs : List A)
    (j : ℕ) (y : A) → slice_get xs j ≡ Some y → AreNew foreign before (flat_map f xs)
    → (more : List Mark) × AreNew foreign more (f y)
item_new f foreign before [] j y e new = absurd (none-some y e)
item_new f foreign before (x ∷ xs) zero y e new = (
  before,
  subst (λ z. AreNew foreign before (f z)) (same_Some x y e) (left_new foreign before (f x) (flat_map f xs) new),
)
item_new f foreign before (x ∷ xs) (suc j) y e new =
    item_new f foreign (before ++ f x) xs j y e (right_new foreign before (f x) (flat_map f xs) new)

labels_neutral : (fields : List (Labelled Bytes)) → Neutral (map (labelled_mark Values) fields)
labels_neutral [] rest n s = s
labels_neutral (p ∷ fields) rest n s = labels_neutral fields rest n s

-- ---- type parameters

-- type parameters are in a block that is open where nothing behind them ends it
in_block : (before rest : List Mark) (generics : List (Constrained Bytes)) → ((n : ℕ) → Stays rest n)
    → AreInBlock (before ++ (map generic_mark generics ++ rest)) generics
in_block before rest [] stays = tt
in_block before rest (p ∷ generics) stays = (
  (
    before,
    map generic_mark generics ++ rest,
    p.parameter.name.at,
    refl,
    stays_open (map generic_mark generics ++ rest) (generics_stay generics 0),
  ),
  subst (λ (ms : List Mark). AreInBlock ms generics)
      (append_assoc before (generic_mark p ∷ []) (map generic_mark generics ++ rest))
      (in_block (before ++ generic_mark p ∷ []) rest generics stays),
)
  where
    generics_stay : (gs : List (Constrained Bytes)) (n : ℕ) → Stays (map generic_mark gs ++ rest) n
    generics_stay [] n = stays n
    generics_stay (g ∷ gs) n = generics_stay gs n

-- ---- bodies

-- No name of the text of a function or method is declared again, where its type parameters are in open blocks.
pub record IsNewThere (generics : List (Constrained Bytes)) (header : Header Bytes) (body : PlainStatements) :
    Type 0 where
  pub foreign : Kind → Bytes → Bool
  pub before : List Mark
  pub new : AreNew foreign before (map (labelled_mark Values) header.parameters ++ block_marks body)
  pub declared : AreInBlock before generics

pub function_new : (foreign : Kind → Bytes → Bool) (before : List Mark) (generics : List (Constrained Bytes))
    (header : Header Bytes) (body : PlainStatements)
    → AreNew foreign before (enclosed (function_marks Definition generics header ++ block_marks body))
    → IsNewThere generics header body
function_new foreign before generics header body new =
    let base = before ++ Opens ∷ [] in
    let own = map generic_mark generics in
    let name = declared Definition Callables header.name in
    let params = map (labelled_mark Values) header.parameters in
    let inside = inner_new foreign before (function_marks Definition generics header ++ block_marks body) new in
    let split = subst (λ (ms : List Mark). AreNew foreign base ms)
    (append_assoc own (name ∷ params) (block_marks body)) inside in
    let behind = right_new foreign base own (name ∷ (params ++ block_marks body)) split in
    record {
      foreign = foreign;
      before = base ++ (own ++ name ∷ []);
      new = subst (λ (ms : List Mark). AreNew foreign ms (params ++ block_marks body))
          (append_assoc base own (name ∷ []))
          (right_new foreign (base ++ own) (name ∷ []) (params ++ block_marks body) behind);
      declared = in_block base (name ∷ []) generics (λ n. tt);
    }

method_neutral : (m : PlainMethod) → Neutral (method_body_marks m)
method_neutral m =
    let params = map (labelled_mark Values) m.header.parameters in
    neutral_enclosed (params ++ block_marks m.body)
    (neutral_join params (block_marks m.body) (labels_neutral m.header.parameters) (neutral_all m.body))

-- the marks of a method stand behind those of others, each of which ends its blocks
pub record Behind (foreign : Kind → Bytes → Bool) (before : List Mark) (m : NotedMethod) : Type 0 where
  pub others : List Mark
  pub stays : (n : ℕ) → Stays others n
  pub new : AreNew foreign (before ++ others) (method_body_marks (erase_method m))

method_behind : (foreign : Kind → Bytes → Bool) (before : List Mark) (name : Bytes) (ms : List NotedMethod)
    (m : NotedMethod) → find (is_method name) ms ≡ Some m
    → AreNew foreign before (flat_map method_body_marks (map erase_method ms)) → Behind foreign before m
method_behind foreign before name [] m e new = absurd (none-some m e)
method_behind foreign before name (first ∷ rest) m e new =
    by (is_method name first) (λ later. method_behind foreign (before ++ own) name rest m later
    (right_new foreign before own others new)) e
  where
    own : List Mark
    own = method_body_marks (erase_method first)

    others : List Mark
    others = flat_map method_body_marks (map erase_method rest)

    by : (b : Bool) → (find (is_method name) rest ≡ Some m → Behind foreign (before ++ own) m)
        → cond b (Some first) (find (is_method name) rest) ≡ Some m → Behind foreign before m
    by true later e =
        subst (λ (x : NotedMethod). Behind foreign before x) (same_Some first m e)
        (record {
          others = [];
          stays = λ n. tt;
          new = subst (λ (ms : List Mark). AreNew foreign ms own) (sym (append-nil before))
              (left_new foreign before own others new);
        })
    by false later e =
        let its = later e in
        record {
          others = own ++ its.others;
          stays = λ n. stays_on own its.others n (neutral_stays own (method_neutral (erase_method first)) n)
              its.stays;
          new = subst (λ (ms : List Mark). AreNew foreign ms (method_body_marks (erase_method m)))
              (append_assoc before own its.others) its.new;
        }

pub method_new : (foreign : Kind → Bytes → Bool) (before : List Mark) (generics : List (Constrained Bytes))
    (name : Bytes) (ms : List NotedMethod) (m : NotedMethod) → find (is_method name) ms ≡ Some m
    → AreNew foreign before
    (enclosed (map generic_mark generics ++ flat_map method_body_marks (map erase_method ms)))
    → IsNewThere generics m.header (erase_block m.body)
method_new foreign before generics name ms m e new =
    let base = before ++ Opens ∷ [] in
    let own = map generic_mark generics in
    let all = flat_map method_body_marks (map erase_method ms) in
    let params = map (labelled_mark Values) m.header.parameters in
    let inside = inner_new foreign before (own ++ all) new in
    let its = method_behind foreign (base ++ own) name ms m e (right_new foreign base own all inside) in
    let text = params ++ block_marks (erase_block m.body) in
    let here = inner_new foreign ((base ++ own) ++ its.others) text its.new in
    let last : ((base ++ own) ++ its.others) ++ Opens ∷ [] ≡ base ++ (own ++ (its.others ++ Opens ∷ [])) =
    append_assoc (base ++ own) its.others (Opens ∷ []) ∙ append_assoc base own (its.others ++ Opens ∷ []) in
    record {
      foreign = foreign;
      before = base ++ (own ++ (its.others ++ Opens ∷ []));
      new = subst (λ (marks : List Mark). AreNew foreign marks text) last here;
      declared = in_block base (its.others ++ Opens ∷ []) generics
          (λ n. stays_on its.others (Opens ∷ []) n (its.stays n) (λ k. tt));
    }
