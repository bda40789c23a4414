-- Carrying by how its print ends, and demand 3 of what it leaves.
use Prim.Native.Nat.{ℕ, suc, ◌+◌, ◌≤◌, ◌<◌, ◌^◌}
use native.Mathlib.Omega.{arith}
use mathlib.Core.Path.{◌≡◌, refl, sym, ap, ◌∙◌}
use mathlib.Core.Bool.{true}
use mathlib.Core.List.{List, [], ◌∷◌, ◌++◌}
use lib.Dec.{ltb}
use lib.ListN.{length, take, drop, get_or, length-append}
use lib.Seq.{take-append_seam}
use borrow.Author.Tests.{lt-ltb, le-ltb}
use Rattle.std.specs.Prelude.{Result, Ok, Err, MatchResult, IsErrAnd}
use Rattle.definitions.specs.declared.Refused.{Refused}
use Rattle.definitions.specs.Basics.{each, part}
use Rattle.definitions.specs.Refusals.{Answer, given, denied}
use Rattle.definitions.specs.Image.{is_message, message_count}
use Rattle.definitions.specs.Nodes.{word32}
use Rattle.definitions.specs.Calls.{barred}
use Rattle.definitions.specs.Reading.{Made, read_answer, read_nodes, read_pool}
use Rattle.definitions.specs.Print.{Style, print_text, print_answer, print_buffer}
use Rattle.parse.specs.declared.Made as code
use Rattle.parse.specs.Whole.{read_of}
use Rattle.text_format.specs.Answers.{printed_of}
use Rattle.text_format.proofs.Opened.{passed_on}
use Rattle.compatibility.specs.Demand.{spelling, Setting, Demand}
use Rattle.compatibility.proofs.Demand.{here, ext, demand}
use Rattle.laws.proofs.Lists.{and-made}
use Rattle.carry.specs.declared.NotCarried.{NotCarried}
use Rattle.carry.specs.declared.NotCarried.TheVariants as not_carried
use Rattle.carry.specs.Carry.{read_as, carry_answer, carry_nodes, carry_pool, Carriable, Carries}
use Rattle.carry.proofs.Printing.{refused-carried, refused-after, printed-length, print-given, buffer-is, front-is, part-front}

-- what holds of each element by its index holds of each
pub each_below : (m : ℕ) (l : List ℕ) → ((i : ℕ) → get_or l i 0 < m) → each (λ x. ltb x m) l ≡ true
unfolding each
each_below m [] h = refl
each_below m (x ∷ xs) h = and-made (ltb x m) (each (λ x. ltb x m) xs) (lt-ltb x m (h 0)) (each_below m xs (λ i. h (suc i)))

-- a read's answer, its refusal as one of carrying, is that of the definition
carried_read : (a : Answer Made) (r : Result code.Made NotCarried)
    → MatchResult (read_of a) (λ m. r ≡ Ok m) (λ u. IsErrAnd r (λ d. d ≡ not_carried.Read u)) → r ≡ read_as a
carried_read (given m) r h = h
carried_read (denied why at) r h = passed_on r _ h

-- a print's answer, its refusal as one of carrying
abbrev pub CarriedPrint : Result ℕ Refused → Result ℕ NotCarried → Type 0
CarriedPrint p r = MatchResult p (λ n. r ≡ Ok n) (λ u. IsErrAnd r (λ d. d ≡ not_carried.Print u))

pub printed-refused : (p : Result ℕ Refused) (r : Result ℕ NotCarried) (d : NotCarried) → CarriedPrint p r → r ≡ Err d → (u : Refused) × ((p ≡ Err u) × (d ≡ not_carried.Print u))
printed-refused (Ok n) r d h e = let z : Ok n ≡ Err d = sym h ∙ e in cc
printed-refused (Err u) r d h e = let q : r ≡ Err (not_carried.Print u) = passed_on r (not_carried.Print u) h in (u, (refl, cc))

pub printed_made : (p : Result ℕ Refused) (r : Result ℕ NotCarried) (n : ℕ) → CarriedPrint p r → r ≡ Ok n → p ≡ Ok n
printed_made (Ok m) r n h e = cc
printed_made (Err u) r n h e = let q : r ≡ Err (not_carried.Print u) = passed_on r (not_carried.Print u) h in cc

module _ (newer older : List ℕ) (y : Style) (root : ℕ) (w pool buffer into bytes : List ℕ) where
  -- the answer, the buffer, the nodes and the bytes after a call
  pub record Ends (r : Result code.Made NotCarried) (b n m : List ℕ) : Type 0 where
    pub answer : r ≡ carry_answer newer older y root w pool (length buffer) (length into) (length bytes)
    pub text : b ≡ print_buffer newer y root w pool buffer
    pub table : n ≡ carry_nodes newer older y root w pool (length buffer) into (length bytes)
    pub stored : m ≡ carry_pool newer older y root w pool (length buffer) (length into) bytes

  -- ---- demand 3

  module _ (r : Result code.Made NotCarried) (b n m : List ℕ) (d : Ends r b n m)
      (words : (i : ℕ) → get_or w i 0 < 2 ^ 32) (octets : (i : ℕ) → get_or pool i 0 < 2 ^ 8)
      (g : Carriable newer older root w pool y (length buffer)) where
    setting : Setting newer older root w pool y
    setting =
        record {
          newer_good = g.newer_good;
          older_good = g.older_good;
          extending = g.extending;
          root_good = g.root_good;
          table_good = g.table_good;
          words_good = each_below word32 w words;
          pool_good = each_below 256 pool octets;
          named = g.named;
          short = g.short;
        }

    theorem : Demand newer older root w pool y
    theorem = demand newer older root w pool y setting

    newer-root : is_message newer root ≡ true
    unfolding is_message
    newer-root =
        lt-ltb root (message_count newer)
        (omega (arith, here newer older root w pool y setting, (ext newer older root w pool y setting).messages))

    granted : print_answer newer y root w pool (length buffer) ≡ given (length (print_text newer y root w pool))
    unfolding print_answer barred
    granted = simp (g.newer_good, newer-root, g.table_good, le-ltb (length buffer) (length (print_text newer y root w pool)) g.fits)

    answer-is : r ≡ read_as (read_answer older root (print_text newer y root w pool) (length into) (length bytes))
    unfolding carry_answer
    answer-is = d.answer ∙ rw granted refl

    table_is : n ≡ read_nodes older root (print_text newer y root w pool) into (length bytes)
    unfolding carry_nodes
    table_is = d.table ∙ rw granted refl

    stored_is : m ≡ read_pool older root (print_text newer y root w pool) (length into) bytes
    unfolding carry_pool
    stored_is = d.stored ∙ rw granted refl

    text-is : b ≡ print_text newer y root w pool ++ drop (length (print_text newer y root w pool)) buffer
    text-is = d.text ∙ buffer-is newer y root w pool buffer (length (print_text newer y root w pool)) granted

    pub carries : Carries newer older root w pool y r b into n bytes m
    unfolding read_nodes read_pool
    carries =
        record {
          text = ap (take (length (print_text newer y root w pool))) text-is ∙ take-append_seam (print_text newer y root w pool) _;
          known =
              λ e room.
              let f = theorem.known e into bytes room in
              record {
                answer = answer-is ∙ ap read_as f.answer;
                good = rw (table_is, stored_is) f.good;
                same = rw (table_is, stored_is) f.same;
                printed = λ z. rw (table_is, stored_is) (f.printed z);
              };
          unknown =
              λ e.
              let f = theorem.unknown e in
              record {
                first = f.first;
                lacks = f.lacks;
                stands =
                    ap (λ (l : List ℕ). part l f.first.at (f.first.at + length (spelling f.first.name))) text-is
                    ∙ part-front (print_text newer y root w pool) _ (spelling f.first.name) f.first.at f.stands;
                answer = answer-is ∙ ap read_as (f.answer (length into) (length bytes));
                nodes_kept = table_is ∙ rw (f.answer (length into) (length bytes)) refl;
                bytes_kept = stored_is ∙ rw (f.answer (length into) (length bytes)) refl;
              };
        }

  -- all that is promised of a call
  abbrev pub Promised : Result code.Made NotCarried → (b n m : List ℕ) → Type 0
  Promised r b n m =
      (r ≡ carry_answer newer older y root w pool (length buffer) (length into) (length bytes))
      × ((b ≡ print_buffer newer y root w pool buffer)
      × ((n ≡ carry_nodes newer older y root w pool (length buffer) into (length bytes))
      × ((m ≡ carry_pool newer older y root w pool (length buffer) (length into) bytes)
      × (Carriable newer older root w pool y (length buffer) → Carries newer older root w pool y r b into n bytes m))))

  pub promised : (r : Result code.Made NotCarried) (b n m : List ℕ) → ((i : ℕ) → get_or w i 0 < 2 ^ 32) → ((i : ℕ) → get_or pool i 0 < 2 ^ 8) → Ends r b n m
      → Promised r b n m
  promised r b n m words octets d = (d.answer, (d.text, (d.table, (d.stored, carries r b n m d words octets))))

  -- ---- by how the print ends

  module _ (p : Result ℕ Refused) (h : p ≡ printed_of (print_answer newer y root w pool (length buffer)))
      (b : List ℕ) (k : b ≡ print_buffer newer y root w pool buffer) where
    pub ends-refused : (u : Refused) → p ≡ Err u → Ends (Err (not_carried.Print u)) b into bytes
    unfolding carry_answer carry_nodes carry_pool
    ends-refused u e =
        let q = sym e ∙ h in
        let a = print_answer newer y root w pool (length buffer) in
        record { answer = refused-carried a u q _; text = k; table = refused-after a u q into _; stored = refused-after a u q bytes _ }

    module _ (l : ℕ) (e : p ≡ Ok l) where
      granted-is : print_answer newer y root w pool (length buffer) ≡ given l
      granted-is = printed-length (print_answer newer y root w pool (length buffer)) l (sym e ∙ h)

      -- the text that is handed on
      handed : take l b ≡ print_text newer y root w pool
      handed = ap (take l) k ∙ front-is newer y root w pool buffer l granted-is

      pub length-fits : l ≤ length b
      length-fits =
          let whole : length b ≡ length (print_text newer y root w pool ++ drop (length (print_text newer y root w pool)) buffer) =
          ap length (k ∙ buffer-is newer y root w pool buffer l granted-is) in
          let seam = length-append (print_text newer y root w pool) (drop (length (print_text newer y root w pool)) buffer) in
          omega (arith, whole, seam, (print-given newer y root w pool buffer l granted-is).0)

      pub ends_read : (a : Result code.Made Refused) (n m : List ℕ)
          → a ≡ read_of (read_answer older root (take l b) (length into) (length bytes))
          → n ≡ read_nodes older root (take l b) into (length bytes)
          → m ≡ read_pool older root (take l b) (length into) bytes
          → (r : Result code.Made NotCarried) → MatchResult a (λ x. r ≡ Ok x) (λ u. IsErrAnd r (λ d. d ≡ not_carried.Read u)) → Ends r b n m
      unfolding carry_answer carry_nodes carry_pool
      ends_read a n m ha hn hm r hr =
          record {
            answer = carried_read (read_answer older root (take l b) (length into) (length bytes)) r (rw ha at hr) ∙ rw (handed, granted-is) refl;
            text = k;
            table = hn ∙ rw (handed, granted-is) refl;
            stored = hm ∙ rw (handed, granted-is) refl;
          }
