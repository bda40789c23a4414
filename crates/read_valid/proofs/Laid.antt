-- What it is that a reading lays a tree down, and trees laid down one after another.
use Prim.Native.Nat.{ℕ, suc, ◌+◌, ◌-◌}
use native.Mathlib.Omega.{arith}
use mathlib.Core.Path.{◌≡◌, refl, sym, ap, ◌∙◌}
use mathlib.Core.List.{List, [], ◌++◌, append-nil, append_assoc}
use lib.ListN.{length, length-append}
use Rattle.definitions.specs.declared.Spot.{Spot}
use Rattle.definitions.specs.declared.Place.{Place}
use Rattle.definitions.specs.declared.Want.{Want}
use Rattle.definitions.specs.Scope.{within}
use Rattle.definitions.specs.Nodes.{words}
use Rattle.definitions.specs.Live.{Val, number, run, inside, Tree, nil, node}
use Rattle.definitions.specs.Loop.{Out, done, refused, ahead}
use Rattle.definitions.specs.Reading.{leaf, number_leaf, run_leaf, nested, joined}
use Rattle.trees.specs.Laying.{size, high_in, low_in, bytes_in, laid_bytes, laid_words}
use Rattle.trees.proofs.TableGood.{Right, Good}

-- ---- laid down

-- from the node i and the pool byte b on to the spot p, the words w and the bytes v are the tree u
pub record Laid (i b : ℕ) (p : Spot) (w v : List ℕ) (u : Tree) : Type 0 where
  pub words : w ≡ laid_words u i b
  pub bytes : v ≡ laid_bytes u
  pub nodes : p.node ≡ i + size u
  pub pool : p.byte ≡ b + length (laid_bytes u)

-- what a reading gives, from the node i and the pool byte b on, is some tree with a property; a refusal says nothing
pub record Lays (P : Tree → Type 0) (i b : ℕ) (o : Out) : Type 0 where
  pub laid : (p : Spot) (w v : List ℕ) → o ≡ done p w v → (u : Tree) × Laid i b p w v u × P u

pub lays-refused : {P : Tree → Type 0} {i b why : ℕ} {at : Place} → Lays P i b (refused why at)
lays-refused = record { laid = λ p w v x. let z : ◌≡◌ {A = ℕ} 0 1 = cc in absurd (omega arith) }

pub lays-done : {P : Tree → Type 0} {i b : ℕ} {p : Spot} {w v : List ℕ} (u : Tree) → Laid i b p w v u → P u → Lays P i b (done p w v)
lays-done {p = p₁} {w = w₁} {v = v₁} u l h = record {
  laid = λ p w v x.
      let ep : p₁ ≡ p = cc in
      let ew : w₁ ≡ w = cc in
      let ev : v₁ ≡ v = cc in
      (u, rw (← ep, ← ew, ← ev) l, h);
}

pub lays-map : {P Q : Tree → Type 0} {i b : ℕ} {o : Out} → ((u : Tree) → P u → Q u) → Lays P i b o → Lays Q i b o
lays-map f g = record { laid = λ p w v x. let h = g.laid p w v x in (h.0, h.1, f h.0 h.2) }

-- ---- one after another

-- the trees side by side
unfoldable pub beside : Tree → Tree → Tree
beside nil t = t
beside (node r k v kids rest) t = node r k v kids (beside rest t)

beside-bytes : (u t : Tree) → laid_bytes u ++ laid_bytes t ≡ laid_bytes (beside u t)
unfolding laid_bytes beside
beside-bytes nil t = refl
beside-bytes (node r k v kids rest) t =
    append_assoc (bytes_in v) (laid_bytes kids ++ laid_bytes rest) (laid_bytes t)
    ∙ ap (λ (a : List ℕ). bytes_in v ++ a)
    (append_assoc (laid_bytes kids) (laid_bytes rest) (laid_bytes t) ∙ ap (λ (a : List ℕ). laid_bytes kids ++ a) (beside-bytes rest t))

beside-size : (u t : Tree) → size (beside u t) ≡ size u + size t
unfolding size beside
beside-size nil t = omega arith
beside-size (node r k v kids rest) t = let h = beside-size rest t in omega arith

beside-words : (u t : Tree) (i b : ℕ) → laid_words u i b ++ laid_words t (i + size u) (b + length (laid_bytes u)) ≡ laid_words (beside u t) i b
unfolding laid_words laid_bytes size beside
beside-words nil t i b =
    let ei : i + 0 ≡ i = omega arith in
    let eb : b + 0 ≡ b = omega arith in
    rw (ei, eb) refl
beside-words (node r k v kids rest) t i b =
    let j : ℕ = i + 1 + size kids in
    let a : ℕ = b + length (bytes_in v) + length (laid_bytes kids) in
    let ei : i + suc (size kids + size rest) ≡ j + size rest = omega arith in
    let eb : b + length (bytes_in v ++ (laid_bytes kids ++ laid_bytes rest)) ≡ a + length (laid_bytes rest) =
    omega (arith, length-append (bytes_in v) (laid_bytes kids ++ laid_bytes rest), length-append (laid_bytes kids) (laid_bytes rest)) in
    rw (ei, eb, append_assoc (laid_words kids (i + 1) (b + length (bytes_in v))) (laid_words rest j a), beside-words rest t j a) refl

pub laid_on : {i b : ℕ} {q p : Spot} {w v x y : List ℕ} (u t : Tree) → Laid i b q w v u → Laid q.node q.byte p x y t
    → Laid i b p (w ++ x) (v ++ y) (beside u t)
laid_on {i} {b} {q} {p} {w} {v} {x} {y} u t l m =
    record {
      words = rw (l.words, m.words, l.nodes, l.pool) (beside-words u t i b);
      bytes = rw (l.bytes, m.bytes) (beside-bytes u t);
      nodes = omega (arith, l.nodes, m.nodes, beside-size u t);
      pool = omega (arith, l.pool, m.pool, length-append (laid_bytes u) (laid_bytes t), ap length (beside-bytes u t));
    }

pub ahead-lays : {P R : Tree → Type 0} {i b : ℕ} {q : Spot} {w v : List ℕ} (o : Out) (u : Tree) → Laid i b q w v u → Lays P q.node q.byte o
    → ((t : Tree) → P t → R (beside u t)) → Lays R i b (ahead w v o)
ahead-lays (refused why at) u l g f = lays-refused
ahead-lays (done p x y) u l g f = let h = g.laid p x y refl in lays-done (beside u h.0) (laid_on u h.0 l h.1) (f h.0 h.2)

pub joined-lays : {P Q R : Tree → Type 0} {i b : ℕ} (o : Out) (rest : Spot → Out) → Lays P i b o
    → ((q : Spot) → Lays Q q.node q.byte (rest q)) → ((u t : Tree) → P u → Q t → R (beside u t)) → Lays R i b (joined o rest)
joined-lays (refused why at) rest g h f = lays-refused
joined-lays (done q w v) rest g h f = let l = g.laid q w v refl in ahead-lays (rest q) l.0 l.1 (h q) (λ t x. f l.0 t l.2 x)

-- nothing is made
pub stays-lays : {P : Tree → Type 0} (q : Spot) → P nil → Lays P q.node q.byte (done q [] [])
unfolding laid_words laid_bytes size
stays-lays q h = lays-done nil (record { words = refl; bytes = refl; nodes = omega arith; pool = omega arith }) h

-- ---- one value

-- the tree is one value for what is wanted
pub data One (s : List ℕ) (left : ℕ) (w : Want) : Tree → Type 0 where
  one : {v : Val} {kids : Tree} → Right left w.kind v kids → Good s (left - 1) (within w) kids
      → One s left w (node w.field w.kind v kids nil)

-- with nothing inside
pub leaf-lays : (s : List ℕ) (left : ℕ) (w : Want) (q : Spot) (at : ℕ) (v : Val) → Right left w.kind v nil
    → Lays (One s left w) q.node q.byte (leaf w q at (high_in v q.byte) (low_in v) (bytes_in v))
unfolding laid_words laid_bytes size
leaf-lays s left w q at v h =
    let e : q.node + 1 + 0 ≡ q.node + 1 = omega arith in
    lays-done (node w.field w.kind v nil nil)
    (record {
      words = rw e refl;
      bytes = sym (append-nil (bytes_in v));
      nodes = omega arith;
      pool = rw append-nil refl;
    })
    (one h tt)

pub number-lays : (s : List ℕ) (left : ℕ) (w : Want) (q : Spot) (at n : ℕ) → Right left w.kind (number n) nil
    → Lays (One s left w) q.node q.byte (number_leaf w q at n)
number-lays s left w q at n h = leaf-lays s left w q at (number n) h

pub run-lays : (s : List ℕ) (left : ℕ) (w : Want) (q : Spot) (at : ℕ) (bs : List ℕ) → Right left w.kind (run bs) nil
    → Lays (One s left w) q.node q.byte (run_leaf w q at bs)
run-lays s left w q at bs h = leaf-lays s left w q at (run bs) h

-- what lies inside a message or an entry for what is wanted
abbrev pub Inside : List ℕ → ℕ → Want → Tree → Type 0
Inside s left w u = Right left w.kind inside u × Good s (left - 1) (within w) u

-- the node of a message or an entry, before what lies inside
nested-words : (w : Want) (i b : ℕ) (u : Tree)
    → words (record { kind = w.kind; field = w.field; high = 0; low = 0; end = i + 1 + size u }) ++ laid_words u (i + 1) b
    ≡ laid_words (node w.field w.kind inside u nil) i b
unfolding laid_words
nested-words w i b u = let e : b + 0 ≡ b = omega arith in rw (e, append-nil) refl

pub nested-lays : (s : List ℕ) (left : ℕ) (w : Want) (i b : ℕ) (o : Out) → Lays (Inside s left w) (i + 1) b o → Lays (One s left w) i b (nested w o)
unfolding laid_bytes size
nested-lays s left w i b (refused why at) g = lays-refused
nested-lays s left w i b (done p x y) g = let h = g.laid p x y refl in go h.0 h.1 h.2
  where
    go : (u : Tree) → Laid (i + 1) b p x y u → Inside s left w u → Lays (One s left w) i b (nested w (done p x y))
    go u l h =
        lays-done (node w.field w.kind inside u nil)
        (record {
          words = rw (l.words, l.nodes) (nested-words w i b u);
          bytes = l.bytes ∙ sym (append-nil (laid_bytes u));
          nodes = omega (arith, l.nodes);
          pool = rw append-nil l.pool;
        })
        (one h.0 h.1)
