-- Demand 3: what is printed under a newer schema and read under an older one.
use Prim.Native.Nat.{ℕ, suc, ◌+◌, ◌*◌, ◌-◌, ◌≤◌, ◌<◌}
use native.Mathlib.Omega.{arith}
use mathlib.Core.Path.{◌≡◌, refl, sym, ap, ◌∙◌}
use mathlib.Core.Bool.{true, false}
use mathlib.Core.List.{List, [], ◌++◌, append-nil, map}
use mathlib.Core.Option.{none, some}
use lib.ListN.{length, drop}
use borrow.Author.Tests.{ltb-true, le-ltb}
use Rattle.definitions.specs.declared.Node.{Node}
use Rattle.definitions.specs.Refusals.{given, denied, most_depth}
use Rattle.definitions.specs.Image.{is_message, message_count}
use Rattle.definitions.specs.Scope.{in_message}
use Rattle.definitions.specs.Nodes.{node_at, table_end, forest, grow}
use Rattle.definitions.specs.Validity.{below, valid}
use Rattle.definitions.specs.Live.{Tree, tree_of, canon, meaning}
use Rattle.definitions.specs.Names.{names}
use Rattle.definitions.specs.Places.{place_of}
use Rattle.definitions.specs.Loop.{done}
use Rattle.definitions.specs.Calls.{barred}
use Rattle.definitions.specs.Reading.{Made, node_room, fitted, whole, read_barred, read_answer, read_nodes, read_pool}
use Rattle.definitions.specs.Print.{Style, render, print_text}
use Rattle.laws.proofs.Stores.{sets-front}
use Rattle.trees.specs.Laying.{relabel, size, laid_bytes, laid_words, root_over, table_over}
use Rattle.compatibility.specs.Demand.{by_name, Spelled, spelled, lacking, knows_all, refusal_of, Setting, Room, table_read, pool_read, Reads, Refuses, Demand}
use Rattle.trees.proofs.Accepted.{Accepted, accepted-is}
use Rattle.trees.proofs.Extends.{Extends, extends-is}
use Rattle.trees.proofs.Trees.{Fits}
use Rattle.compatibility.proofs.Fields.{or_miss}
use Rattle.compatibility.proofs.Bodies.{over-whole}
use Rattle.trees.proofs.Canon.{Canonical, canon-id, canon-canonical, canon-rugged}
use Rattle.compatibility.proofs.Fitting.{rugged-fits}
use Rattle.compatibility.proofs.Relabelled.{spelled-names, lacking-none, lacking-some, AllKnown, all_known, relabel-canonical, by_name-relabel, render-relabel, relabel-fits, size-relabel, bytes-relabel}
use Rattle.compatibility.proofs.Places.{Stands, lacking-stands, spelled-stands, Rising, names-rise}
use Rattle.compatibility.proofs.Rooms.{size-meaning, bytes-render}
use Rattle.trees.proofs.TableGood.{fits-good, table-valid}
use Rattle.trees.proofs.Tables.{Shaped, fits-shaped, planted-tree, grow-planted, node-laid, length-laid}
use Rattle.trees.proofs.Valid.{valid-rugged}

-- ---- the table that a canonical tree makes means that tree

pub meaning-laid : (s : List ℕ) (root : ℕ) (u : Tree) (more after : List ℕ) → Shaped u → Canonical s (in_message root) u
    → meaning s root (table_over u ++ more) (laid_bytes u ++ after) ≡ u
unfolding meaning below forest table_end
meaning-laid s root u more after sh cn =
    let w : List ℕ = table_over u ++ more in
    let pool : List ℕ = laid_bytes u ++ after in
    let n : node_at w 0 ≡ root_over u = node-laid w 0 (root_over u) (laid_words u 1 0 ++ more) refl in
    let t : tree_of pool (grow (1 + size u - 1) w 1 (1 + size u)) ≡ u =
    ap (tree_of pool) (grow-planted w u (1 + size u - 1) 1 0 more (omega arith) refl) ∙ planted-tree pool u 1 0 after sh refl in
    ap (λ (e : ℕ). canon s (in_message root) (tree_of pool (grow (e - 1) w 1 e))) (ap (λ (m : Node). m.end) n)
    ∙ ap (canon s (in_message root)) t
    ∙ canon-id s (in_message root) u cn

-- ---- the demand, in a setting

module _ (newer older : List ℕ) (root : ℕ) (w pool : List ℕ) (y : Style) (g : Setting newer older root w pool y) where
  -- the live values, and what they are under the older schema
  abbrev pub t : Tree
  t = meaning newer root w pool

  abbrev pub u : Tree
  u = relabel newer older (in_message root) (in_message root) (meaning newer root w pool)

  abbrev pub text : List ℕ
  text = print_text newer y root w pool

  -- the live names of the text, with their offsets
  abbrev pub spellings : List Spelled
  spellings = spelled newer y 0 true (in_message root) (meaning newer root w pool) 0

  pub ok_n : Accepted newer
  ok_n = accepted-is newer g.newer_good

  pub ok_o : Accepted older
  ok_o = accepted-is older g.older_good

  pub ext : Extends newer older
  ext = extends-is newer older g.extending

  pub here : root < message_count older
  unfolding is_message
  here = ltb-true root (message_count older) g.root_good

  canonical : Canonical newer (in_message root) t
  unfolding meaning
  canonical =
      canon-canonical newer most_depth (in_message root) (tree_of pool (below w))
      (valid-rugged newer root w pool ok_n (omega (arith, here, ext.messages)) g.table_good g.words_good g.pool_good)

  pub fits : Fits newer most_depth (in_message root) t
  unfolding meaning
  fits =
      rugged-fits newer most_depth (in_message root) t
      (canon-rugged newer most_depth (in_message root) (tree_of pool (below w))
      (valid-rugged newer root w pool ok_n (omega (arith, here, ext.messages)) g.table_good g.words_good g.pool_good))
      canonical
      g.named

  -- the whole reading
  reading : whole older root text
      ≡ or_miss text (lacking older spellings)
      (done (record { at = length text; node = 1 + size u; byte = length (laid_bytes u) }) (table_over u) (laid_bytes u))
  unfolding print_text
  reading = over-whole newer older y ok_n ok_o ext root t here fits

  not-barred : read_barred older root (length text) ≡ none
  unfolding read_barred barred
  not-barred = rw (g.older_good, g.root_good, g.short) refl

  answer-is : (count size : ℕ) → read_answer older root text count size ≡ fitted count size (whole older root text)
  unfolding read_answer
  answer-is count size = rw not-barred refl

  refuses : (x : Spelled) → lacking older spellings ≡ some x → (count size : ℕ)
      → read_answer older root text count size ≡ denied (refusal_of x.name) (place_of text x.at)
  refuses x e count size = answer-is count size ∙ ap (fitted count size) reading ∙ rw e refl

  -- their names are the live names
  pub names-are : map (λ (x : Spelled). x.name) spellings ≡ names newer (in_message root) t
  names-are = spelled-names newer y 0 true (in_message root) t 0

  -- every live name stands where it is said to, in the order of the text
  pub stand : Stands text spellings
  unfolding print_text
  stand = spelled-stands newer text y t most_depth 0 true (in_message root) 0 [] fits (sym (append-nil text))

  pub in_order : Rising 0 (0 + length text) spellings
  unfolding print_text
  in_order = names-rise newer y most_depth 0 true (in_message root) t 0 fits

  lacking-case : knows_all older (names newer (in_message root) t) ≡ false → Refuses older root text spellings
  lacking-case e =
      let x = lacking-some older spellings (ap (knows_all older) names-are ∙ e) in
      record { first = x.0; lacks = x.1; stands = lacking-stands older text spellings x.0 stand x.1; answer = refuses x.0 x.1 }

  module _ (e : knows_all older (names newer (in_message root) (meaning newer root w pool)) ≡ true) where
    abbrev made : Made
    made = record { nodes = suc (size t); bytes = length (laid_bytes t) }

    whole_is : whole older root text ≡ done (record { at = length text; node = 1 + size u; byte = length (laid_bytes u) }) (table_over u) (laid_bytes u)
    whole_is = reading ∙ rw (lacking-none older spellings (ap (knows_all older) names-are ∙ e)) refl

    size_is : 1 + size u ≡ suc (size t)
    size_is = let z = size-relabel newer older (in_message root) (in_message root) t in omega arith

    bytes-are : length (laid_bytes u) ≡ length (laid_bytes t)
    bytes-are = ap length (bytes-relabel newer older (in_message root) (in_message root) t)

    all-names : AllKnown newer older ok_n ok_o ext (in_message root) (in_message root) t
    all-names = all_known newer older ok_n ok_o ext most_depth (in_message root) (in_message root) t (refl, here) fits e

    older-canonical : Canonical older (in_message root) u
    older-canonical = relabel-canonical newer older ok_n ok_o ext most_depth (in_message root) (in_message root) t (refl, here) fits all-names canonical

    module _ (nodes bytes : List ℕ) (room : Room (meaning newer root w pool) nodes bytes) where
      given_is : read_answer older root text (length nodes) (length bytes) ≡ given made
      given_is =
          answer-is (length nodes) (length bytes)
          ∙ ap (fitted (length nodes) (length bytes)) whole_is
          ∙ rw (
            size_is,
            bytes-are,
            le-ltb (node_room (length nodes)) (suc (size t)) room.nodes_fit,
            le-ltb (length bytes) (length (laid_bytes t)) room.bytes_fit,
          )
          refl

      words-fit : length (table_over u) ≤ length nodes
      words-fit = let h = room.nodes_fit in omega (arith, size_is, length-laid u 1 0)

      nodes-are : read_nodes older root text nodes (length bytes) ≡ table_over u ++ drop (length (table_over u)) nodes
      unfolding read_nodes
      nodes-are = rw (given_is, whole_is) (sets-front nodes (table_over u) words-fit)

      pool-is : read_pool older root text (length nodes) bytes ≡ laid_bytes u ++ drop (length (laid_bytes u)) bytes
      unfolding read_pool
      pool-is = rw (given_is, whole_is) (sets-front bytes (laid_bytes u) (omega (arith, bytes-are, room.bytes_fit)))

      -- what was read means the live values under the older schema's ranks
      pub meaning-read : meaning older root (read_nodes older root text nodes (length bytes)) (read_pool older root text (length nodes) bytes) ≡ u
      meaning-read =
          rw (nodes-are, pool-is)
          (meaning-laid older root u (drop (length (table_over u)) nodes) (drop (length (laid_bytes u)) bytes)
          (fits-shaped newer older most_depth (in_message root) (in_message root) t fits)
          older-canonical)

      read-valid : valid older root (table_read older root text nodes bytes) (pool_read older root text nodes bytes) ≡ true
      read-valid =
          rw (nodes-are, pool-is)
          (table-valid older root u (drop (length (table_over u)) nodes) (drop (length (laid_bytes u)) bytes)
          (fits-good older most_depth (in_message root) u
          (relabel-fits newer older ok_n ok_o ext most_depth (in_message root) (in_message root) t (refl, here) fits all-names))
          (omega (arith, size_is, room.nodes_fit)))

      pub reads : Reads newer older root w pool text nodes bytes
      unfolding print_text
      reads =
          record {
            answer = given_is;
            good = read-valid;
            same =
                ap (by_name older (in_message root)) meaning-read
                ∙ by_name-relabel newer older ok_n ok_o ext most_depth (in_message root) (in_message root) t (refl, here) fits all-names;
            printed =
                λ z. ap (render older z 0 true (in_message root)) meaning-read
                ∙ render-relabel newer older ok_n ok_o ext z most_depth 0 true (in_message root) (in_message root) t (refl, here) fits all-names;
          }

  -- as many nodes as the table has, and as many bytes as the text has, are room enough
  pub enough : (nodes bytes : List ℕ) → 5 * table_end w ≤ length nodes → length text ≤ length bytes → Room t nodes bytes
  unfolding print_text
  enough nodes bytes h k =
      let n = size-meaning newer root w pool g.table_good in
      let b = bytes-render newer y most_depth 0 true (in_message root) t fits in
      record { nodes_fit = omega arith; bytes_fit = omega arith }

  pub demand : Demand newer older root w pool y
  demand = record { known = λ e nodes bytes room. reads e nodes bytes room; unknown = lacking-case }
