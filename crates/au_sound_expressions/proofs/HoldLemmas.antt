-- How names stand before and after the actions of a whole expression.
use Rattle.std.proofs.Common.{◌≡◌, ℕ, zero, suc, ◌+◌, ◌==◌, Bool, true, false, List, [], ◌∷◌}
use Rattle.std.proofs.Common.{Option, Some, None, refl, sym, ap, subst, ◌∙◌, arith, if◌then◌else◌}
use Rattle.std.proofs.lemmas.Bool.{eq-eqb, eqb-true}
use Rattle.au_ahead.specs.Ready.{IsOpen, Ready}
use Rattle.au_ahead.specs.Ready as stands
use Rattle.au_ahead.proofs.ReadyLemmas as ready
use Rattle.au_lives.specs.Mentions.{Counts, counts, one_consumption, one_read_borrow, one_write_borrow}
use Rattle.au_lives.specs.Mentions.{plus, unmentioned}
use Rattle.au_memory.specs.Forests as forest
use Rattle.au_memory.specs.Forests.{Hold, empty, shut, watched}
use Rattle.au_lending.specs.Ending.{freed, left_watched, others_of}
use Rattle.au_lending.specs.Laws.{IsReadable, also_watched}
use Rattle.au_meaning.specs.Names.{Variable}
use Rattle.au_running_judgements.specs.Lives.{AreReady, Standing, spent, stand}
use Rattle.au_running_judgements.specs.Uses.{where_of}
use Rattle.au_sound_expressions.specs.Safe.{Waits}

-- ---- counts

pub plus_apart : (a b c : Counts) → plus (plus a b) c ≡ plus a (plus b c)
plus_apart a b c =
    let one : (a.consumed + b.consumed) + c.consumed ≡ a.consumed + (b.consumed + c.consumed) = omega arith in
    let two : (a.written + b.written) + c.written ≡ a.written + (b.written + c.written) = omega arith in
    let three : (a.read + b.read) + c.read ≡ a.read + (b.read + c.read) = omega arith in
    let four : (a.looked + b.looked) + c.looked ≡ a.looked + (b.looked + c.looked) = omega arith in
    λ i. counts (one i) (two i) (three i) (four i)

-- nothing is met besides
pub plus_nothing : (c : Counts) → plus c unmentioned ≡ c
plus_nothing c =
    let one : c.consumed + 0 ≡ c.consumed = omega arith in
    let two : c.written + 0 ≡ c.written = omega arith in
    let three : c.read + 0 ≡ c.read = omega arith in
    let four : c.looked + 0 ≡ c.looked = omega arith in
    λ i. counts (one i) (two i) (three i) (four i)

pub nothing_plus : (c : Counts) → plus unmentioned c ≡ c
nothing_plus c =
    let one : 0 + c.consumed ≡ c.consumed = omega arith in
    let two : 0 + c.written ≡ c.written = omega arith in
    let three : 0 + c.read ≡ c.read = omega arith in
    let four : 0 + c.looked ≡ c.looked = omega arith in
    λ i. counts (one i) (two i) (three i) (four i)

-- ---- one name

-- a name is ready, or it may be looked at
pub is_ready : (h : Hold) → stand h ≡ stands.ready → h ≡ forest.ready
is_ready empty e = absurd cc
is_ready forest.ready e = refl
is_ready (shut z) e = absurd cc
is_ready (watched zs) e = absurd cc

pub is_readable : (h : Hold) → IsOpen (stand h) → IsReadable h
is_readable empty e = absurd e
is_readable forest.ready e = tt
is_readable (shut z) e = absurd e
is_readable (watched zs) e = tt

-- where it may be looked at, it is watched when it is lent to read
pub stand_watched : (z : ℕ) (h : Hold) → IsReadable h → stand (also_watched z h) ≡ stands.watched
stand_watched z empty is = absurd is
stand_watched z forest.ready is = refl
stand_watched z (shut y) is = absurd is
stand_watched z (watched zs) is = refl

freed_watched : (z : ℕ) (zs : List ℕ) → others_of z (z ∷ zs) ≡ others_of z zs
freed_watched z zs = ap (λ (b : Bool). if b then others_of z zs else z ∷ others_of z zs) (eq-eqb z z refl)

-- and when the token ends, it is as it was
pub freed_read : (z : ℕ) (h : Hold) → IsReadable h → freed z (also_watched z h) ≡ freed z h
freed_read z empty is = absurd is
freed_read z forest.ready is = ap left_watched (freed_watched z [])
freed_read z (shut y) is = absurd is
freed_read z (watched zs) is = ap left_watched (freed_watched z zs)

pub freed_shut : (z : ℕ) → freed z (shut z) ≡ forest.ready
freed_shut z = ap (λ (b : Bool). if b then forest.ready else shut z) (eq-eqb z z refl)

-- ---- consumption

pub spent_both : (n m : ℕ) (h : Hold) → spent m (spent n h) ≡ spent (n + m) h
spent_both zero m h = let same : m ≡ zero + m = omega arith in ap (λ k. spent k h) same
spent_both (suc n) m h = by m
  where
    last : (m : ℕ) → spent (suc n + m) h ≡ empty
    last m = let same : suc n + m ≡ suc (n + m) = omega arith in ap (λ k. spent k h) same

    by : (m : ℕ) → spent m empty ≡ spent (suc n + m) h
    by zero = sym (last zero)
    by (suc m) = sym (last (suc m))

pub spent_none : (n : ℕ) (h : Hold) → n ≡ 0 → h ≡ spent n h
spent_none n h is = sym (ap (λ k. spent k h) is)

-- ---- what stands for one variable

pub where_own : (x : Variable) (one : Counts) → where_of x.number (Some x) one ≡ one
where_own x one = ap (λ (b : Bool). if b then one else unmentioned) (eq-eqb x.number x.number refl)

-- what isn't a consumption consumes nothing
pub kept_where : (k : ℕ) (o : Option Variable) (one : Counts) → one.consumed ≡ 0 → (where_of k o one).consumed ≡ 0
kept_where k None one is = refl
kept_where k (Some x) one is = by (x.number == k)
  where
    by : (b : Bool) → (if b then one else unmentioned).consumed ≡ 0
    by true = is
    by false = refl

-- the name that is met is good for its own count
pub met_own : (x : Variable) (one : Counts) (h : Standing) (rest : ℕ → Counts)
    → AreReady h (λ k. plus (where_of k (Some x) one) (rest k))
    → Ready (stand (h x.number)) (plus one (rest x.number))
met_own x one h rest met =
    subst (λ c. Ready (stand (h x.number)) (plus c (rest x.number))) (where_own x one) (met x.number)

-- ---- all names

pub rest_ready : (h : Standing) (first rest : ℕ → Counts) → AreReady h (λ k. plus (first k) (rest k)) → AreReady h rest
rest_ready h first rest met = λ k. ready.skipped (stand (h k)) (first k) (rest k) (met k)

pub regrouped : (h : Standing) (a b c : ℕ → Counts) → AreReady h (λ k. plus (plus (a k) (b k)) (c k))
    → AreReady h (λ k. plus (a k) (plus (b k) (c k)))
regrouped h a b c met = λ k. subst (λ n. Ready (stand (h k)) n) (plus_apart (a k) (b k) (c k)) (met k)

-- a name is consumed
pub met_moved : (x : Variable) (h : Standing) (rest : ℕ → Counts)
    → AreReady h (λ k. plus (where_of k (Some x) one_consumption) (rest k))
    → AreReady (λ k. if x.number == k then empty else h k) rest
met_moved x h rest met = λ k. by k (x.number == k) (met k)
  where
    by : (k : ℕ) (b : Bool) → Ready (stand (h k)) (plus (if b then one_consumption else unmentioned) (rest k))
        → Ready (stand (if b then empty else h k)) (rest k)
    by k true met = (ready.consumes (stand (h k)) (rest k) met).1
    by k false met = ready.skipped (stand (h k)) unmentioned (rest k) met

pub gone_moved : (z : ℕ) (x : Variable) (h : Standing) (k : ℕ)
    → freed z (if x.number == k then empty else h k)
    ≡ spent (where_of k (Some x) one_consumption).consumed (freed z (h k))
gone_moved z x h k = by (x.number == k)
  where
    by : (b : Bool) → freed z (if b then empty else h k)
        ≡ spent (if b then one_consumption else unmentioned).consumed (freed z (h k))
    by true = refl
    by false = refl

-- a name is lent to write
pub met_lent : (z : ℕ) (x : Variable) (h : Standing) (rest : ℕ → Counts)
    → AreReady h (λ k. plus (where_of k (Some x) one_write_borrow) (rest k))
    → AreReady (λ k. if x.number == k then shut z else h k) rest
met_lent z x h rest met = λ k. by k (x.number == k) (met k)
  where
    by : (k : ℕ) (b : Bool) → Ready (stand (h k)) (plus (if b then one_write_borrow else unmentioned) (rest k))
        → Ready (stand (if b then shut z else h k)) (rest k)
    by k true met = (ready.lends (stand (h k)) (rest k) met).1
    by k false met = ready.skipped (stand (h k)) unmentioned (rest k) met

pub gone_lent : (z : ℕ) (x : Variable) (h : Standing) (k : ℕ) → h x.number ≡ forest.ready
    → freed z (if x.number == k then shut z else h k)
    ≡ spent (where_of k (Some x) one_write_borrow).consumed (freed z (h k))
gone_lent z x h k is = by (x.number == k) refl
  where
    by : (b : Bool) → (x.number == k) ≡ b
        → freed z (if b then shut z else h k)
        ≡ spent (if b then one_write_borrow else unmentioned).consumed (freed z (h k))
    by true same =
        let at : h k ≡ forest.ready = subst (λ n. h n ≡ forest.ready) (eqb-true x.number k same) is in
        freed_shut z ∙ sym (ap (freed z) at)
    by false same = refl

-- a name is lent to read
pub met_read : (z : ℕ) (x : Variable) (h : Standing) (rest : ℕ → Counts) → IsReadable (h x.number)
    → AreReady h (λ k. plus (where_of k (Some x) one_read_borrow) (rest k))
    → AreReady (λ k. if x.number == k then also_watched z (h x.number) else h k) rest
met_read z x h rest is met = λ k. by k (x.number == k) (met k)
  where
    by : (k : ℕ) (b : Bool) → Ready (stand (h k)) (plus (if b then one_read_borrow else unmentioned) (rest k))
        → Ready (stand (if b then also_watched z (h x.number) else h k)) (rest k)
    by k true met =
        subst (λ s. Ready s (rest k)) (sym (stand_watched z (h x.number) is))
        (ready.reads (stand (h k)) (rest k) met).1
    by k false met = ready.skipped (stand (h k)) unmentioned (rest k) met

pub gone_read : (z : ℕ) (x : Variable) (h : Standing) (k : ℕ) → IsReadable (h x.number)
    → freed z (if x.number == k then also_watched z (h x.number) else h k)
    ≡ spent (where_of k (Some x) one_read_borrow).consumed (freed z (h k))
gone_read z x h k is = by (x.number == k) refl
  where
    by : (b : Bool) → (x.number == k) ≡ b
        → freed z (if b then also_watched z (h x.number) else h k)
        ≡ spent (if b then one_read_borrow else unmentioned).consumed (freed z (h k))
    by true same =
        freed_read z (h x.number) is ∙ ap (λ n. freed z (h n)) (eqb-true x.number k same)
    by false same = refl

-- ---- tokens for which names wait

pub waits_put : (active : ℕ → Bool) (n : ℕ) (a : Hold) (h : Standing) → Waits active a → ((k : ℕ) → Waits active (h k))
    → (k : ℕ) → Waits active (if n == k then a else h k)
waits_put active n a h own waits k = by (n == k)
  where
    by : (b : Bool) → Waits active (if b then a else h k)
    by true = own
    by false = waits k

pub waits_watched : (active : ℕ → Bool) (z : ℕ) (h : Hold) → active z ≡ true → Waits active h
    → Waits active (also_watched z h)
waits_watched active z empty is waits = tt
waits_watched active z forest.ready is waits = (is, tt)
waits_watched active z (shut y) is waits = waits
waits_watched active z (watched []) is waits = absurd waits
waits_watched active z (watched (y ∷ zs)) is waits = (is, waits)
