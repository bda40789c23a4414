-- A valid table's print: the body below the root.
use Prim.Native.Nat.{ℕ, ◌≤◌, ◌<◌}
use native.Mathlib.Omega.{arith}
use mathlib.Core.Bool.{true}
use mathlib.Core.Path.{◌≡◌, sym}
use mathlib.Core.List.{List}
use lib.ListN.{length}
use Rattle.definitions.specs.declared.Want.{Want}
use Rattle.definitions.specs.Image.{accepted, message_count}
use Rattle.definitions.specs.Scope.{within}
use Rattle.definitions.specs.Nodes.{table_end}
use Rattle.definitions.specs.Validity.{valid, below}
use Rattle.definitions.specs.Reading.{root_want}
use Rattle.definitions.specs.Live.{canon, meaning}
use Rattle.definitions.specs.Print.{Style, render, print_text}
use Rattle.laws.proofs.Lists.{AreBytes}
use Rattle.nodes.proofs.Scopes.{within-root, there-root}
use Rattle.validity.proofs.Root.{Root, root-parts}
use Rattle.validity.proofs.Values.{valid-root}
use Rattle.live.proofs.Sounds.{sound-valid}
use Rattle.spelling.specs.Written.{Room}
use Rattle.print.specs.Printable.{Printable}
use Rattle.print.specs.Order.{values}
use Rattle.spelling.proofs.Texts.{as_room}
use Rattle.print.proofs.Sizes.{AreWords, print-small}

module _ (s pool w : List ℕ) (root : ℕ) (v : valid s root w pool ≡ true) where
  top : Root w
  top = root-parts w (valid-root s root w pool v)

  pub whole_room : 5 ≤ length w
  whole_room = omega (arith, top.some, top.room)

  module _ (q : Want) (e : ℕ) (eq : q ≡ root_want root) (en : e ≡ table_end w) where
    pub whole-text : (y : Style) → render s y 0 true (within q) (canon s (within q) (values pool w 1 e)) ≡ print_text s y root w pool
    unfolding print_text meaning below table_end
    whole-text y = rw (eq, en, within-root root)

    pub whole-printable : accepted s ≡ true → root < message_count s → Printable s pool w q 0 1 e
    unfolding table_end
    whole-printable good h =
        let few = top.few in
        record {
          good = good;
          there = there-root s q root eq h;
          sound = rw (eq, en, within-root root) (sound-valid s root w pool v);
          deep = rw en (omega arith);
        }

    pub whole-fits : (y : Style) → AreBytes pool → AreWords w → Room 0 (render s y 0 true (within q) (canon s (within q) (values pool w 1 e)))
    whole-fits y b words =
        let small = print-small pool w b words s y root (sound-valid s root w pool v).tiled top.few in
        as_room (sym (whole-text y)) (record { fits = omega arith })
