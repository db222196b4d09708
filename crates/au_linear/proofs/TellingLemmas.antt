-- What is told of variables, part by part.
use Rattle.std.proofs.Common.{◌≡◌, ℕ, suc, ◌+◌, ◌<◌, ◌≤◌, List, [], ◌∷◌, ◌++◌, length, drop, map}
use Rattle.std.proofs.Common.{append_assoc, get_or, refl, sym, ap, subst, ◌∙◌, arith, Option, None, Some}
use Rattle.std.proofs.Common.{Result, Ok, Err}
use Rattle.std.proofs.lemmas.List.{drop_all}
use Rattle.au_base.proofs.ListLemmas.{next_item}
use Rattle.au_lives.specs.declared.lives.Sort.{Sort}
use Rattle.au_lives.specs.Scopes.{Scope}
use Rattle.au_lives.specs.Refusals.{Refusal, Variable, Refused, refusal, or_later, first_refused}
use Rattle.au_syntax.specs.Plain.{Bytes}
use Rattle.au_linear.specs.declared.faults.Refused.{Refused as FaultRefused}
use Rattle.au_linear.specs.declared.faults.LinearFault.{LinearFault}
use Rattle.au_linear.specs.declared.faults.LinearFault.TheVariants as faults
use Rattle.au_clearing.specs.declared.dealings.Life.{Life}
use Rattle.au_clearing.specs.Dealings.{life_of}
use Rattle.au_linear.specs.declared.tasks.Task.{Task}
use Rattle.au_linear.specs.declared.tasks.Task.TheVariants as tasks
use Rattle.au_linear.specs.Telling.{asked, sorted, refusal_of, Tells}
use Rattle.au_linear.specs.Allotting.{Allots, Allotted, asked_task, told_by, first_told, Decides, Sees}
use Rattle.au_lives.proofs.RefusalLemmas.{good_none}

drop_one_more : {A : Type 0} (n : ℕ) (xs : List A) → drop n (drop 1 xs) ≡ drop (suc n) xs
drop_one_more n [] = drop_all n [] (omega arith)
drop_one_more n (x ∷ xs) = refl

drop_both : {A : Type 0} (a b : List Scope) (xs : List A) → drop (length b) (drop (length a) xs)
    ≡ drop (length (a ++ b)) xs
drop_both [] b xs = refl
drop_both (s ∷ a) b xs =
    ap (drop (length b)) (sym (drop_one_more (length a) xs)) ∙ drop_both a b (drop 1 xs)
    ∙ drop_one_more (length (a ++ b)) xs

later_none : (v : Variable) (o : Option Refusal) (l m : Option Refused) → or_later v o l ≡ None → or_later v o m ≡ m
later_none v None l m h = refl
later_none v (Some why) l m h = absurd (cc)

later_left : (v : Variable) (o : Option Refusal) (l : Option Refused) → or_later v o l ≡ None → l ≡ None
later_left v None l h = h
later_left v (Some why) l h = absurd (cc)

later_some : (v : Variable) (o : Option Refusal) (l m : Option Refused) (r : Refused) →
    (l ≡ Some r → m ≡ Some r) → or_later v o l ≡ Some r →
    or_later v o m ≡ Some r
later_some v None l m r more h = more h
later_some v (Some why) l m r more h = h

abbrev variable : Scope → Sort → Variable
variable s sort = record { scope = s; sort = sort }

abbrev refused : Scope → Sort → Option Refusal
refused s sort = refusal s.name.name sort s.block

told_none : (s : Scope) (t : Task) (l m : Option Refused) → told_by s t l ≡ None → told_by s t m ≡ m
told_none s tasks.Cleared l m h = refl
told_none s (tasks.Judge sort) l m h = later_none (variable s sort) (refused s sort) l m h

told_left : (s : Scope) (t : Task) (l : Option Refused) → told_by s t l ≡ None → l ≡ None
told_left s tasks.Cleared l h = h
told_left s (tasks.Judge sort) l h = later_left (variable s sort) (refused s sort) l h

told_some : (s : Scope) (t : Task) (l m : Option Refused) (r : Refused) → (l ≡ Some r → m ≡ Some r) →
    told_by s t l ≡ Some r → told_by s t m ≡ Some r
told_some s tasks.Cleared l m r more h = more h
told_some s (tasks.Judge sort) l m r more h = later_some (variable s sort) (refused s sort) l m r more h

none_before : (a b : List Scope) (ts : List Task) → first_told a ts ≡ None →
    first_told (a ++ b) ts ≡ first_told b (drop (length a) ts)
none_before [] b ts h = refl
none_before (s ∷ a) b ts h =
    told_none s (asked_task ts) (first_told a (drop 1 ts)) (first_told (a ++ b) (drop 1 ts)) h
    ∙ none_before a b (drop 1 ts) (told_left s (asked_task ts) (first_told a (drop 1 ts)) h)
    ∙ ap (first_told b) (drop_one_more (length a) ts)

some_before : (a b : List Scope) (ts : List Task) (r : Refused) → first_told a ts ≡ Some r →
    first_told (a ++ b) ts ≡ Some r
some_before [] b ts r h = absurd (cc)
some_before (s ∷ a) b ts r h =
    told_some s (asked_task ts) (first_told a (drop 1 ts)) (first_told (a ++ b) (drop 1 ts)) r
    (some_before a b (drop 1 ts) r) h

tells_more : (f : LinearFault) (o p : Option Refused) → ((r : Refused) → o ≡ Some r → p ≡ Some r) →
    Tells f o → Tells f p
tells_more (faults.Refused f) o p more h = (h.0, (more h.0 h.1.0, h.1.1))
tells_more faults.Memory o p more h = tt

pub sees_none : (ts : List Task) (n : ℕ) → Sees (Ok n) [] ts n
sees_none ts n = (refl, refl)

-- one variable whose life is good, and one that is refused
pub judged_good : (v : Scope) (sort : Sort) (x : Bytes) → x ≡ v.name.name → refusal x sort v.block ≡ None →
    Decides (Ok tt) v (tasks.Judge sort)
judged_good v sort x p h =
    ap (λ o. or_later (variable v sort) o None) (ap (λ x. refusal x sort v.block) (sym p) ∙ h)

pub judged_bad : (v : Scope) (sort : Sort) (x : Bytes) (f : FaultRefused) → x ≡ v.name.name →
    refusal x sort v.block ≡ Some (refusal_of f.why) → v.name.name ≡ f.variable → v.name.at ≡ f.at →
    Decides (Err (faults.Refused f)) v (tasks.Judge sort)
judged_bad v sort x f p h name at = (
  record { variable = variable v sort; why = refusal_of f.why },
  (
    ap (λ o. or_later (variable v sort) o None) (ap (λ x. refusal x sort v.block) (sym p) ∙ h),
    (name, (at, refl)),
  ),
)

-- one variable that its task doesn't refuse, and one that it refuses
pub one_seen : (v : Scope) (ts : List Task) (n next : ℕ) (t : Task) → t ≡ asked_task (drop n ts) →
    told_by v t None ≡ None → drop next ts ≡ drop 1 (drop n ts) → Sees (Ok next) (v ∷ []) ts n
one_seen v ts n next t is good e = (ap (λ t. told_by v t None) (sym is) ∙ good, e)

pub one_refused : (v : Scope) (ts : List Task) (n : ℕ) (t : Task) (f : LinearFault) → t ≡ asked_task (drop n ts) →
    Tells f (told_by v t None) → Sees (Err f) (v ∷ []) ts n
one_refused v ts n t f is h = subst (λ t. Tells f (told_by v t None)) is h

rest_first : (a b : List Scope) (ts : List Task) (m n : ℕ) → Sees (Ok m) a ts n →
    first_told (a ++ b) (drop n ts) ≡ first_told b (drop m ts)
rest_first a b ts m n h = none_before a b (drop n ts) h.0 ∙ ap (first_told b) (sym h.1)

-- some variables and then others
pub sees_both : (a b : List Scope) (ts : List Task) (m n : ℕ) (r : Result ℕ LinearFault) →
    Sees (Ok m) a ts n → Sees r b ts m →
    Sees r (a ++ b) ts n
sees_both a b ts m n (Ok k) h more = (
  rest_first a b ts m n h ∙ more.0,
  more.1 ∙ ap (drop (length b)) h.1 ∙ drop_both a b (drop n ts),
)
sees_both a b ts m n (Err f) h more =
    tells_more f (first_told b (drop m ts)) (first_told (a ++ b) (drop n ts))
    (λ r e. rest_first a b ts m n h ∙ e) more

-- what is told of some is told of them with others behind
pub sees_stop : (a b : List Scope) (ts : List Task) (n : ℕ) (f : LinearFault) → Sees (Err f) a ts n →
    Sees (Err f) (a ++ b) ts n
sees_stop a b ts n f h =
    tells_more f (first_told a (drop n ts)) (first_told (a ++ b) (drop n ts))
    (λ r e. some_before a b (drop n ts) r e) h

-- the variables that items declare, each before those behind it
pub record Declaring (A : Type 0) : Type 0 where
  pub all : List A → List Scope
  pub one : A → List A → List Scope
  pub step : (a : A) (rest : List A) → all (a ∷ rest) ≡ one a rest ++ all rest
  pub none : all [] ≡ []

-- what is told of those that are left is told of all
abbrev pub Settles : List Scope → List Scope → List Task → ℕ → ℕ → Type 0
Settles left whole ts m n = (r : Result ℕ LinearFault) → Sees r left ts m → Sees r whole ts n

module _ {A : Type 0} (d : Declaring A) (xs : List A) (i : ℕ) (a : A) (is : a ≡ get_or xs i a) (lt : i < length xs)
    (whole : List Scope) (ts : List Task) (m n : ℕ) (before : Settles (d.all (drop i xs)) whole ts m n) where
  split : d.all (drop i xs) ≡ d.one a (drop (i + 1) xs) ++ d.all (drop (i + 1) xs)
  split = ap d.all (next_item xs i a is lt) ∙ d.step a (drop (i + 1) xs)

  pub item_goes : (k : ℕ) → Sees (Ok k) (d.one a (drop (i + 1) xs)) ts m →
      Settles (d.all (drop (i + 1) xs)) whole ts k n
  item_goes k h r more =
      before r (subst (λ l. Sees r l ts m) (sym split)
      (sees_both (d.one a (drop (i + 1) xs)) (d.all (drop (i + 1) xs)) ts k m r h more))

  pub item_stops : (f : LinearFault) → Sees (Err f) (d.one a (drop (i + 1) xs)) ts m → Sees (Err f) whole ts n
  item_stops f h =
      before (Err f) (subst (λ l. Sees (Err f) l ts m) (sym split)
      (sees_stop (d.one a (drop (i + 1) xs)) (d.all (drop (i + 1) xs)) ts m f h))

pub items_done : {A : Type 0} (d : Declaring A) (xs : List A) (i : ℕ) → length xs ≤ i →
    (whole : List Scope) (ts : List Task) (m n : ℕ) →
    Settles (d.all (drop i xs)) whole ts m n → Sees (Ok m) whole ts n
items_done d xs i past whole ts m n before =
    before (Ok m) (subst (λ l. Sees (Ok m) l ts m) (sym (ap d.all (drop_all i xs past) ∙ d.none)) (sees_none ts m))

-- what is told of variables by their tasks is what is told of them by what their types ask for
pub told_all : (scopes : List Scope) (sorts : List Sort) (ts : List Task) → Allotted (map life_of scopes) sorts ts →
    first_told scopes ts ≡ first_refused (sorted scopes sorts)
told_all [] sorts ts h = refl
told_all (s ∷ rest) sorts [] h = absurd h
told_all (s ∷ rest) sorts (t ∷ ts) h =
    by t h.0 ∙ ap (or_later (variable s (asked sorts)) (refused s (asked sorts))) (told_all rest (drop 1 sorts) ts h.1)
  where
    by : (t : Task) → Allots (life_of s) (asked sorts) t →
        told_by s t (first_told rest ts) ≡ or_later (variable s (asked sorts)) (refused s (asked sorts))
        (first_told rest ts)
    by tasks.Cleared good =
        sym (ap (λ o. or_later (variable s (asked sorts)) o (first_told rest ts))
        (good_none s.name.name (asked sorts) s.block (good s refl)))
    by (tasks.Judge sort) is = ap (λ sort. told_by s (tasks.Judge sort) (first_told rest ts)) is

-- one task more is allotted
pub allots_more : (life : Life) (rest : List Life) (sorts : List Sort) (ts more : List Task) (t : Task)
    (all : List Life) (from : List Sort) →
    ((more : List Task) → Allotted (life ∷ rest) sorts more → Allotted all from (ts ++ more)) →
    Allots life (asked sorts) t →
    Allotted rest (drop 1 sorts) more → Allotted all from ((ts ++ t ∷ []) ++ more)
allots_more life rest sorts ts more t all from before one h =
    subst (Allotted all from) (sym (append_assoc ts (t ∷ []) more)) (before (t ∷ more) (one, h))
