-- That what is written of a script reads back as it was meant.
use Rattle.std.proofs.Common.{◌≡◌, ℕ, zero, suc, ◌+◌, ◌*◌, ◌/◌, ◌%◌, ◌<◌, ◌≤◌, true, leb, List, [], ◌∷◌, ◌++◌, length, get_or, take, drop, Some, sym, refl, ap, ◌∙◌, subst, ap₂, inl, inr, append_assoc, arith, lit<, length-append, length-drop, take-append-drop}
use Rattle.std.specs.List.{slice_get}
use Rattle.std.proofs.lemmas.List.{get_or-append-add, get_or-drop, length-take-le}
use Rattle.std.proofs.lemmas.Option.{slice_get-get_or, slice_get_past}
use Rattle.std.proofs.lemmas.Bool.{cond-true, cond-false, lt-ltb, le-ltb, le-leb, eq-eqb, cases_lt, and_from, and_parts, leb-true, eqb-true}
use Rattle.script.specs.declared.parts.Entry.{Entry}
use Rattle.script.specs.declared.parts.Operation.{Operation}
use Rattle.script.specs.Format.{number_at, entry_count, operation_count, code_at, script_size, is_script, entry_at, operation_at}
use Rattle.script.specs.Encoding.{Meant, Allowed, two_bytes, kinds, triples, acts, pairs, encoded, ReadsBack, WritesBack}

-- ---- numbers after other bytes
whole : (n : ℕ) → n % 256 + 256 * (n / 256) ≡ n
whole n = omega arith

byte_after : (xs ys : List ℕ) (n i : ℕ) → n ≡ length xs + i → get_or (xs ++ ys) n 0 ≡ get_or ys i 0
byte_after xs ys n i e = ap (λ k. get_or (xs ++ ys) k 0) e ∙ get_or-append-add xs ys i 0

number_after : (xs ys : List ℕ) (n i : ℕ) → n ≡ length xs + i → number_at (xs ++ ys) n ≡ number_at ys i
number_after xs ys n i e =
    ap₂ (λ a b. a + 256 * b) (byte_after xs ys n i e) (byte_after xs ys (n + 1) (i + 1) (omega arith))

-- ---- how long the parts are
length_kinds : (es : List Entry) → length (kinds es) ≡ length es
length_kinds [] = refl
length_kinds (e ∷ es) = ap suc (length_kinds es)

length_acts : (os : List Operation) → length (acts os) ≡ length os
length_acts [] = refl
length_acts (o ∷ os) = ap suc (length_acts os)

length_triples : (es : List Entry) → length (triples es) ≡ 6 * length es
length_triples [] = refl
length_triples (e ∷ es) = let h = length_triples es in omega arith

length_pairs : (os : List Operation) → length (pairs os) ≡ 4 * length os
length_pairs [] = refl
length_pairs (o ∷ os) = let h = length_pairs os in omega arith

-- ---- what stands in the parts
kind_at : (es : List Entry) (rest : List ℕ) (i : ℕ) (d : Entry) → i < length es → get_or (kinds es ++ rest) i 0 ≡ (get_or es i d).kind
kind_at [] rest i d h = absurd (omega arith)
kind_at (e ∷ es) rest zero d h = refl
kind_at (e ∷ es) rest (suc i) d h = kind_at es rest i d (omega arith)

act_at : (os : List Operation) (rest : List ℕ) (i : ℕ) (d : Operation) → i < length os → get_or (acts os ++ rest) i 0 ≡ (get_or os i d).number
act_at [] rest i d h = absurd (omega arith)
act_at (o ∷ os) rest zero d h = refl
act_at (o ∷ os) rest (suc i) d h = act_at os rest i d (omega arith)

pub record TripleAt (es : List Entry) (rest : List ℕ) (i : ℕ) (d : Entry) : Type 0 where
  pub round : number_at (triples es ++ rest) (6 * i) ≡ (get_or es i d).round
  pub slot : number_at (triples es ++ rest) (6 * i + 2) ≡ (get_or es i d).slot
  pub block : number_at (triples es ++ rest) (6 * i + 4) ≡ (get_or es i d).block

triple_at : (es : List Entry) (rest : List ℕ) (i : ℕ) (d : Entry) → i < length es → TripleAt es rest i d
triple_at [] rest i d h = absurd (omega arith)
triple_at (e ∷ es) rest zero d h = record { round = whole e.round; slot = whole e.slot; block = whole e.block }
triple_at (e ∷ es) rest (suc i) d h =
    let t = triple_at es rest i d (omega arith) in
    let six : List ℕ = two_bytes e.round ++ (two_bytes e.slot ++ two_bytes e.block) in
    let later = number_after six (triples es ++ rest) in
    record {
      round = later (6 * suc i) (6 * i) (omega arith) ∙ t.round;
      slot = later (6 * suc i + 2) (6 * i + 2) (omega arith) ∙ t.slot;
      block = later (6 * suc i + 4) (6 * i + 4) (omega arith) ∙ t.block;
    }

pub record PairAt (os : List Operation) (i : ℕ) (d : Operation) : Type 0 where
  pub x : number_at (pairs os) (4 * i) ≡ (get_or os i d).x
  pub y : number_at (pairs os) (4 * i + 2) ≡ (get_or os i d).y

pair_at : (os : List Operation) (i : ℕ) (d : Operation) → i < length os → PairAt os i d
pair_at [] i d h = absurd (omega arith)
pair_at (o ∷ os) zero d h = record { x = whole o.x; y = whole o.y }
pair_at (o ∷ os) (suc i) d h =
    let t = pair_at os i d (omega arith) in
    let four : List ℕ = two_bytes o.x ++ two_bytes o.y in
    let later = number_after four (pairs os) in
    record {
      x = later (4 * suc i) (4 * i) (omega arith) ∙ t.x;
      y = later (4 * suc i + 2) (4 * i + 2) (omega arith) ∙ t.y;
    }

-- ---- the whole
no_entry : Entry
no_entry = record { kind = 0; round = 0; slot = 0; block = 0 }

no_operation : Operation
no_operation = record { number = 0; x = 0; y = 0 }

entry_is : (e : Entry) (k r s b : ℕ) → k ≡ e.kind → r ≡ e.round → s ≡ e.slot → b ≡ e.block
    → ◌≡◌ {A = Entry} (record { kind = k; round = r; slot = s; block = b }) e
entry_is e k r s b ek er es eb = rw (ek, er, es, eb) refl

operation_is : (o : Operation) (n x y : ℕ) → n ≡ o.number → x ≡ o.x → y ≡ o.y → ◌≡◌ {A = Operation} (record { number = n; x = x; y = y }) o
operation_is o n x y en ex ey = rw (en, ex, ey) refl

-- the three numbers that a script begins with
abbrev head : Meant → List ℕ → List ℕ
head m rest = two_bytes (length m.entries) ++ (two_bytes (length m.operations) ++ (two_bytes m.code ++ rest))

module _ (m : Meant) where
  entries_told : entry_count (encoded m) ≡ length m.entries
  entries_told = whole (length m.entries)

  operations_told : operation_count (encoded m) ≡ length m.operations
  operations_told = whole (length m.operations)

  code_told : code_at (encoded m) ≡ m.code
  code_told = whole m.code

  size_told : length (encoded m) ≡ script_size (encoded m)
  size_told =
      let K = kinds m.entries in
      let T = triples m.entries in
      let A = acts m.operations in
      let Q = pairs m.operations in
      let f = entries_told in
      let c = operations_told in
      let k = length_kinds m.entries in
      let t = length_triples m.entries in
      let a = length_acts m.operations in
      let q = length_pairs m.operations in
      let body : length (K ++ (T ++ (A ++ Q))) ≡ length K + (length T + (length A + length Q)) = simp length-append in
      omega (arith, f, c, k, t, a, q, body)

  good_told : Allowed m → is_script (encoded m) ≡ true
  good_told ok =
      let f : entry_count (encoded m) ≤ 16 = omega (arith, entries_told, ok.entries) in
      let c : operation_count (encoded m) ≤ 1000 = omega (arith, operations_told, ok.operations) in
      let n : code_at (encoded m) ≤ 2 = omega (arith, code_told, ok.code) in
      and_from _ _ (le-leb _ _ f) (and_from _ _ (le-leb _ _ c) (and_from _ _ (le-leb _ _ n) (eq-eqb _ _ size_told)))

  kind_told : (i : ℕ) → i < length m.entries → get_or (encoded m) (6 + i) 0 ≡ (get_or m.entries i no_entry).kind
  kind_told i h =
      let rest = triples m.entries ++ (acts m.operations ++ pairs m.operations) in
      byte_after (head m []) (kinds m.entries ++ rest) (6 + i) i refl ∙ kind_at m.entries rest i no_entry h

  triple_told : (n j : ℕ) → n ≡ 6 + entry_count (encoded m) + j
      → number_at (encoded m) n ≡ number_at (triples m.entries ++ (acts m.operations ++ pairs m.operations)) j
  triple_told n j e =
      let k = length_kinds m.entries in
      let f = entries_told in
      let long : n ≡ length (head m (kinds m.entries)) + j = omega (arith, e, f, k) in
      number_after (head m (kinds m.entries)) (triples m.entries ++ (acts m.operations ++ pairs m.operations)) n j long

  entry_told : (i : ℕ) → entry_at (encoded m) i ≡ slice_get m.entries i
  entry_told i = elim (cases_lt i (length m.entries)) [
    | inl h ↦
        let from : ℕ = 6 + entry_count (encoded m) in
        let t = triple_at m.entries (acts m.operations ++ pairs m.operations) i no_entry h in
        let there : i < entry_count (encoded m) = omega (arith, entries_told) in
        cond-true _ _ _ (lt-ltb i (entry_count (encoded m)) there)
        ∙ ap Some (entry_is (get_or m.entries i no_entry) _ _ _ _ (kind_told i h)
        (triple_told (from + 6 * i) (6 * i) refl ∙ t.round)
        (triple_told (from + 6 * i + 2) (6 * i + 2) (omega arith) ∙ t.slot)
        (triple_told (from + 6 * i + 4) (6 * i + 4) (omega arith) ∙ t.block))
        ∙ sym (slice_get-get_or m.entries i no_entry h)
    | inr h ↦
        let past : entry_count (encoded m) ≤ i = omega (arith, entries_told) in
        cond-false _ _ _ (le-ltb i (entry_count (encoded m)) past) ∙ sym (slice_get_past m.entries i h)
  ]

  act_told : (i : ℕ) → i < length m.operations
      → get_or (encoded m) (6 + entry_count (encoded m) + 6 * entry_count (encoded m) + i) 0 ≡ (get_or m.operations i no_operation).number
  act_told i h =
      let K = kinds m.entries in
      let T = triples m.entries in
      let R = acts m.operations ++ pairs m.operations in
      let n : ℕ = 6 + entry_count (encoded m) + 6 * entry_count (encoded m) + i in
      let cut : head m (K ++ T) ++ R ≡ encoded m = ap (head m) (append_assoc K T R) in
      let body : length (K ++ T) ≡ length K + length T = simp length-append in
      let long : n ≡ length (head m (K ++ T)) + i = omega (arith, entries_told, length_kinds m.entries, length_triples m.entries, body) in
      ap (λ z. get_or z n 0) (sym cut) ∙ byte_after (head m (K ++ T)) R n i long ∙ act_at m.operations (pairs m.operations) i no_operation h

  pair_told : (n j : ℕ) → n ≡ 6 + entry_count (encoded m) + 6 * entry_count (encoded m) + operation_count (encoded m) + j
      → number_at (encoded m) n ≡ number_at (pairs m.operations) j
  pair_told n j e =
      let K = kinds m.entries in
      let T = triples m.entries in
      let A = acts m.operations in
      let Q = pairs m.operations in
      let cut : head m (K ++ (T ++ A)) ++ Q ≡ encoded m = ap (head m) (append_assoc K (T ++ A) Q ∙ ap (λ z. K ++ z) (append_assoc T A Q)) in
      let body : length (K ++ (T ++ A)) ≡ length K + (length T + length A) = simp length-append in
      let long : n ≡ length (head m (K ++ (T ++ A))) + j =
      omega (arith, e, entries_told, operations_told, length_kinds m.entries, length_triples m.entries, length_acts m.operations, body) in
      ap (λ z. number_at z n) (sym cut) ∙ number_after (head m (K ++ (T ++ A))) Q n j long

  operation_told : (i : ℕ) → operation_at (encoded m) i ≡ slice_get m.operations i
  operation_told i = elim (cases_lt i (length m.operations)) [
    | inl h ↦
        let from : ℕ = 6 + entry_count (encoded m) + 6 * entry_count (encoded m) + operation_count (encoded m) in
        let t = pair_at m.operations i no_operation h in
        let there : i < operation_count (encoded m) = omega (arith, operations_told) in
        cond-true _ _ _ (lt-ltb i (operation_count (encoded m)) there)
        ∙ ap Some (operation_is (get_or m.operations i no_operation) _ _ _ (act_told i h)
        (pair_told (from + 4 * i) (4 * i) refl ∙ t.x)
        (pair_told (from + 4 * i + 2) (4 * i + 2) (omega arith) ∙ t.y))
        ∙ sym (slice_get-get_or m.operations i no_operation h)
    | inr h ↦
        let past : operation_count (encoded m) ≤ i = omega (arith, operations_told) in
        cond-false _ _ _ (le-ltb i (operation_count (encoded m)) past) ∙ sym (slice_get_past m.operations i h)
  ]

pub reads_back : ReadsBack
reads_back m ok = record { good = good_told m ok; code = code_told m; entries = entry_told m; operations = operation_told m }

-- ---- and back
abbrev Low : List ℕ → Type 0
Low xs = (i : ℕ) → get_or xs i 0 < 256

low_take : (n : ℕ) (xs : List ℕ) → Low xs → Low (take n xs)
low_take zero xs h i = lit< tt
low_take (suc n) [] h i = lit< tt
low_take (suc n) (x ∷ xs) h zero = h 0
low_take (suc n) (x ∷ xs) h (suc i) = low_take n xs (λ j. h (suc j)) i

low_drop : (n : ℕ) (xs : List ℕ) → Low xs → Low (drop n xs)
low_drop n xs h i = subst (λ v. v < 256) (sym (get_or-drop n xs i 0)) (h (n + i))

paired : (a b : ℕ) → a < 256 → two_bytes (a + 256 * b) ≡ a ∷ (b ∷ [])
paired a b h =
    let low : (a + 256 * b) % 256 ≡ a = omega arith in
    let high : (a + 256 * b) / 256 ≡ b = omega arith in
    ap₂ (λ x y. x ∷ (y ∷ [])) low high

-- entries that have these kinds and these triples
entries_of : (ks ts : List ℕ) → length ts ≡ 6 * length ks → Low ts → (es : List Entry) × (kinds es ≡ ks) × (triples es ≡ ts)
entries_of [] [] e h = ([], refl, refl)
entries_of [] (t ∷ ts) e h = absurd (omega arith)
entries_of (k ∷ ks) [] e h = absurd (omega arith)
entries_of (k ∷ ks) (a ∷ []) e h = absurd (omega arith)
entries_of (k ∷ ks) (a ∷ (b ∷ [])) e h = absurd (omega arith)
entries_of (k ∷ ks) (a ∷ (b ∷ (p ∷ []))) e h = absurd (omega arith)
entries_of (k ∷ ks) (a ∷ (b ∷ (p ∷ (q ∷ [])))) e h = absurd (omega arith)
entries_of (k ∷ ks) (a ∷ (b ∷ (p ∷ (q ∷ (u ∷ []))))) e h = absurd (omega arith)
entries_of (k ∷ ks) (a ∷ (b ∷ (p ∷ (q ∷ (u ∷ (v ∷ ts)))))) e h =
    let more = entries_of ks ts (omega arith) (λ i. h (suc (suc (suc (suc (suc (suc i))))))) in
    let entry : Entry = record { kind = k; round = a + 256 * b; slot = p + 256 * q; block = u + 256 * v } in (
      entry ∷ more.0,
      ap (λ z. k ∷ z) more.1,
      ap₂ (λ x y. x ++ y) (paired a b (h 0)) (ap₂ (λ x y. x ++ y) (paired p q (h 2)) (ap₂ (λ x y. x ++ y) (paired u v (h 4)) more.2)),
    )

-- operations that have these numbers and these pairs
operations_of : (ns ps : List ℕ) → length ps ≡ 4 * length ns → Low ps → (os : List Operation) × (acts os ≡ ns) × (pairs os ≡ ps)
operations_of [] [] e h = ([], refl, refl)
operations_of [] (t ∷ ts) e h = absurd (omega arith)
operations_of (k ∷ ks) [] e h = absurd (omega arith)
operations_of (k ∷ ks) (a ∷ []) e h = absurd (omega arith)
operations_of (k ∷ ks) (a ∷ (b ∷ [])) e h = absurd (omega arith)
operations_of (k ∷ ks) (a ∷ (b ∷ (p ∷ []))) e h = absurd (omega arith)
operations_of (k ∷ ks) (a ∷ (b ∷ (p ∷ (q ∷ ts)))) e h =
    let more = operations_of ks ts (omega arith) (λ i. h (suc (suc (suc (suc i))))) in
    let operation : Operation = record { number = k; x = a + 256 * b; y = p + 256 * q } in
    (operation ∷ more.0, ap (λ z. k ∷ z) more.1, ap₂ (λ x y. x ++ y) (paired a b (h 0)) (ap₂ (λ x y. x ++ y) (paired p q (h 2)) more.2))

-- parts that are cut from a run one after the other are the run
parts_are : (f c : ℕ) (body ks ts ns ps : List ℕ) → ks ≡ take f body → ts ≡ take (6 * f) (drop f body) → ns ≡ take c (drop (6 * f) (drop f body))
    → ps ≡ drop c (drop (6 * f) (drop f body)) → ks ++ (ts ++ (ns ++ ps)) ≡ body
parts_are f c body ks ts ns ps ek et en ep =
    rw (ek, et, en, ep) (rw (take-append-drop c (drop (6 * f) (drop f body)), take-append-drop (6 * f) (drop f body)) (take-append-drop f body))

-- what is written of so many entries and operations
encoded_is : (m : Meant) (a b p q u v : ℕ) (body : List ℕ) → a < 256 → p < 256 → u < 256 → length m.entries ≡ a + 256 * b
    → length m.operations ≡ p + 256 * q → m.code ≡ u + 256 * v
    → kinds m.entries ++ (triples m.entries ++ (acts m.operations ++ pairs m.operations)) ≡ body
    → encoded m ≡ a ∷ (b ∷ (p ∷ (q ∷ (u ∷ (v ∷ body)))))
encoded_is m a b p q u v body la lp lu ea ep eu same =
    ap₂ (λ x y. x ++ y) (ap two_bytes ea ∙ paired a b la)
    (ap₂ (λ x y. x ++ y) (ap two_bytes ep ∙ paired p q lp) (ap₂ (λ x y. x ++ y) (ap two_bytes eu ∙ paired u v lu) same))

-- the lengths of the parts of a run that has room for f entries and c operations
pub record Cut (f c : ℕ) (body : List ℕ) : Type 0 where
  pub kinds : length (take f body) ≡ f
  pub triples : length (take (6 * f) (drop f body)) ≡ 6 * f
  pub acts : length (take c (drop (6 * f) (drop f body))) ≡ c
  pub pairs : length (drop c (drop (6 * f) (drop f body))) ≡ 4 * c

cut_is : (f c : ℕ) (body : List ℕ) → length body ≡ f + 6 * f + c + 4 * c → Cut f c body
cut_is f c body all =
    let r : length (drop f body) ≡ 6 * f + c + 4 * c = length-drop f body ∙ omega arith in
    let s : length (drop (6 * f) (drop f body)) ≡ c + 4 * c = length-drop (6 * f) (drop f body) ∙ omega arith in
    record {
      kinds = length-take-le f body (omega arith);
      triples = length-take-le (6 * f) (drop f body) (omega arith);
      acts = length-take-le c (drop (6 * f) (drop f body)) (omega arith);
      pairs = length-drop c (drop (6 * f) (drop f body)) ∙ omega arith;
    }

-- what a run with so many entries and operations was written from
body_of : (f c : ℕ) (body : List ℕ) → Low body → length body ≡ f + 6 * f + c + 4 * c
    → (es : List Entry) × (os : List Operation) × (length es ≡ f) × (length os ≡ c) × (kinds es ++ (triples es ++ (acts os ++ pairs os)) ≡ body)
body_of f c body low all =
    let l = cut_is f c body all in
    let low_r = low_drop f body low in
    let low-s = low_drop (6 * f) (drop f body) low_r in
    let E = entries_of (take f body) (take (6 * f) (drop f body)) (omega arith) (low_take (6 * f) (drop f body) low_r) in
    let O = operations_of (take c (drop (6 * f) (drop f body))) (drop c (drop (6 * f) (drop f body))) (omega arith)
    (low_drop c (drop (6 * f) (drop f body)) low-s) in (
      E.0,
      O.0,
      sym (length_kinds E.0) ∙ ap length E.1 ∙ l.kinds,
      sym (length_acts O.0) ∙ ap length O.1 ∙ l.acts,
      parts_are f c body (kinds E.0) (triples E.0) (acts O.0) (pairs O.0) E.1 E.2 O.1 O.2,
    )

-- what the bytes were written from
unpacked : (xs : List ℕ) → Low xs → entry_count xs ≤ 16 → operation_count xs ≤ 1000 → code_at xs ≤ 2 → length xs ≡ script_size xs
    → (m : Meant) × Allowed m × (encoded m ≡ xs)
unpacked [] low few less code size = absurd (omega arith)
unpacked (a ∷ []) low few less code size = absurd (omega arith)
unpacked (a ∷ (b ∷ [])) low few less code size = absurd (omega arith)
unpacked (a ∷ (b ∷ (p ∷ []))) low few less code size = absurd (omega arith)
unpacked (a ∷ (b ∷ (p ∷ (q ∷ [])))) low few less code size = absurd (omega arith)
unpacked (a ∷ (b ∷ (p ∷ (q ∷ (u ∷ []))))) low few less code size = absurd (omega arith)
unpacked (a ∷ (b ∷ (p ∷ (q ∷ (u ∷ (v ∷ body)))))) low few less code size =
    let B = body_of (a + 256 * b) (p + 256 * q) body (λ i. low (suc (suc (suc (suc (suc (suc i))))))) (omega arith) in
    let m : Meant = record { code = u + 256 * v; entries = B.0; operations = B.1 } in
    let entries : length B.0 ≤ 16 = subst (λ n. n ≤ 16) (sym B.2) few in
    let operations : length B.1 ≤ 1000 = subst (λ n. n ≤ 1000) (sym B.3) less in (
      m,
      record { entries = entries; operations = operations; code = code },
      encoded_is m a b p q u v body (low 0) (low 2) (low 4) B.2 B.3 refl B.4,
    )

pub writes_back : WritesBack
writes_back xs low good =
    let t = and_parts (leb (entry_count xs) 16) _ good in
    let r = and_parts (leb (operation_count xs) 1000) _ t.1 in
    let z = and_parts (leb (code_at xs) 2) _ r.1 in
    unpacked xs low (leb-true _ _ t.0) (leb-true _ _ r.0) (leb-true _ _ z.0) (eqb-true _ _ z.1)
