-- The class table: its rule over the whole table by one computed test, and what each class says of a byte.
-- A number past 255 is no byte; the table's default makes it of the other class, so most laws hold of it too.
use Prim.Native.Nat.{ℕ, ◌≤◌, ◌<◌}
use native.Mathlib.Omega.{arith}
use mathlib.Core.Bool.{Bool, true, false, ◌||◌, beq, and-false}
use mathlib.Core.Path.{◌≡◌, refl, sym, ap, ◌∙◌}
use lib.Dec.{ltb, leb, eqb}
use lib.ListN.{length, get_or-eq_default}
use borrow.Author.Tests.{ltb-true, ltb-false, leb-true, lt-leb, eqb-true, ne_eqb}
use Rattle.definitions.specs.Basics.{between, all}
use Rattle.definitions.specs.Image.{letter, digit, word}
use Rattle.definitions.specs.Classes.{classes, class, class_rule, goes_on, is_space, is_symbol, zero_class, high_class, slash_class, quote_class, newline_class, space_class, comment_class, other_class, symbol_class, digit_class, letter_class}
use Rattle.laws.proofs.Lists.{all-at}

-- ---- a test that passes at all 256 bytes by computing passes at each

pub byte-test : (p : ℕ → Bool) → all 256 p ≡ true → (b : ℕ) → b < 256 → p b ≡ true
byte-test p e b h = all-at 256 p e b h

beq-true : (a b : Bool) → beq a b ≡ true → a ≡ b
beq-true true true e = refl
beq-true true false e = sym e
beq-true false true e = e
beq-true false false e = refl

-- the same for two tests that agree
pub byte-tests : (p q : ℕ → Bool) → all 256 (λ b. beq (p b) (q b)) ≡ true → (b : ℕ) → b < 256 → p b ≡ q b
byte-tests p q e b h = beq-true (p b) (q b) (byte-test (λ b. beq (p b) (q b)) e b h)

-- ---- the table

pub class-rule : (b : ℕ) → b < 256 → class b ≡ class_rule b
unfolding all class classes class_rule
class-rule b h = eqb-true (class b) (class_rule b) (byte-test (λ b. eqb (class b) (class_rule b)) refl b h)

pub classes-length : length classes ≡ 256
unfolding classes
classes-length = refl

-- what is no byte is of the other class
pub class-past : (b : ℕ) → 256 ≤ b → class b ≡ other_class
unfolding class
class-past b h = get_or-eq_default classes other_class (omega (arith, classes-length))

-- a test of the class, and what it says of the byte, agree at each number
class-says : (f q : ℕ → Bool) → all 256 (λ b. beq (f (class b)) (q b)) ≡ true → ((b : ℕ) → 256 ≤ b → q b ≡ f other_class) → (b : ℕ) → f (class b) ≡ q b
class-says f q e past b = go (ltb b 256) refl
  where
    go : (t : Bool) → ltb b 256 ≡ t → f (class b) ≡ q b
    go true h = byte-tests (λ b. f (class b)) q e b (ltb-true b 256 h)
    go false h = let far = ltb-false b 256 h in ap f (class-past b far) ∙ sym (past b far)

past-eqb : (b : ℕ) → 256 ≤ b → (c : ℕ) → ltb c 256 ≡ true → eqb b c ≡ false
past-eqb b h c e = let less = ltb-true c 256 e in ne_eqb b c (λ q. omega arith)

past-between : (b : ℕ) → 256 ≤ b → (low high : ℕ) → ltb high 256 ≡ true → between low high b ≡ false
past-between b h low high e = let less = ltb-true high 256 e in rw (lt-leb b high (omega arith)) (and-false (leb low b))

-- ---- what each class says

pub zero-class : (b : ℕ) → eqb (class b) zero_class ≡ eqb b 0
unfolding all class classes
zero-class = class-says (λ c. eqb c zero_class) (λ b. eqb b 0) refl (λ b h. past-eqb b h 0 refl)

pub slash-class : (b : ℕ) → eqb (class b) slash_class ≡ eqb b 92
unfolding all class classes
slash-class = class-says (λ c. eqb c slash_class) (λ b. eqb b 92) refl (λ b h. past-eqb b h 92 refl)

pub quote-class : (b : ℕ) → eqb (class b) quote_class ≡ eqb b 34 || eqb b 39
unfolding all class classes
quote-class = class-says (λ c. eqb c quote_class) (λ b. eqb b 34 || eqb b 39) refl (λ b h. simp (past-eqb b h))

pub newline-class : (b : ℕ) → eqb (class b) newline_class ≡ eqb b 10
unfolding all class classes
newline-class = class-says (λ c. eqb c newline_class) (λ b. eqb b 10) refl (λ b h. past-eqb b h 10 refl)

pub space-class : (b : ℕ) → eqb (class b) space_class ≡ is_space b
unfolding all class classes
space-class = class-says (λ c. eqb c space_class) is_space refl (λ b h. simp (past-eqb b h))

pub comment-class : (b : ℕ) → eqb (class b) comment_class ≡ eqb b 35
unfolding all class classes
comment-class = class-says (λ c. eqb c comment_class) (λ b. eqb b 35) refl (λ b h. past-eqb b h 35 refl)

pub symbol-class : (b : ℕ) → eqb (class b) symbol_class ≡ is_symbol b
unfolding all class classes
symbol-class = class-says (λ c. eqb c symbol_class) is_symbol refl (λ b h. simp (past-eqb b h))

pub digit-class : (b : ℕ) → eqb (class b) digit_class ≡ digit b
unfolding all class classes
digit-class = class-says (λ c. eqb c digit_class) digit refl (λ b h. simp (past-between b h))

pub letter-class : (b : ℕ) → eqb (class b) letter_class ≡ letter b
unfolding all class classes
letter-class = class-says (λ c. eqb c letter_class) letter refl (λ b h. simp (past-eqb b h, past-between b h))

-- letters, digits and `_` go on a name: the classes from 9 up
pub goes_on-word : (b : ℕ) → goes_on b ≡ word b
unfolding all class classes
goes_on-word = class-says (λ c. leb digit_class c) word refl (λ b h. simp (past-eqb b h, past-between b h))

-- a byte past the ASCII ones is of the high class
pub high-class : (b : ℕ) → b < 256 → eqb (class b) high_class ≡ ltb 127 b
unfolding all class classes
high-class = byte-tests (λ b. eqb (class b) high_class) (λ b. ltb 127 b) refl

-- the classes from 5 up are plain inside a string; below stand the zero byte, high bytes, the backslash, the quotes and the newline
pub plain-class : (b : ℕ) → b < 256 → ltb (class b) space_class ≡ eqb b 0 || ltb 127 b || eqb b 92 || eqb b 34 || eqb b 39 || eqb b 10
unfolding all class classes
plain-class = byte-tests (λ b. ltb (class b) space_class) (λ b. eqb b 0 || ltb 127 b || eqb b 92 || eqb b 34 || eqb b 39 || eqb b 10) refl

-- no class is past the last
pub class-most : (b : ℕ) → class b ≤ letter_class
unfolding all class classes
class-most b = leb-true (class b) letter_class (class-says (λ c. leb c letter_class) (λ b. true) refl (λ b h. refl) b)
