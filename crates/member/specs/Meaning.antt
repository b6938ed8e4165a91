-- What a member means, and what it answers by that.
use Rattle.std.specs.Prelude.{◌≡◌, ℕ, ◌<◌, ◌≤◌, Bool, cond, List, length, is_some, Some, None, Option, ◌==◌, nat_lt}
use Rattle.std.specs.Option.{unwrap_or}
use Rattle.code.specs.Blocks.{Block, block_size}
use Rattle.member.specs.declared.Cause.{Cause}
use Rattle.member.specs.declared.Cause.TheVariants.{Gone, Unreadable, Unwritable, NoBlock, BadBuffer}
use Rattle.member.specs.Faults.{Origin, Refusal, raised}

-- how many blocks a member has at most
abbrev pub most_blocks : ℕ
most_blocks = 65535

-- A member has a fixed count of blocks and a height, is gone or present, and holds in each block its bytes, or none where the
-- block is unreadable. Each block is writable or not. The origins say where a fault of each cause on a block would come from.
pub record Meaning : Type 0 where
  pub count : ℕ
  pub height : ℕ
  pub gone : Bool
  pub block : ℕ → Option (List ℕ)
  pub writable : ℕ → Bool
  pub gone_origin : ℕ → Origin
  pub unreadable_origin : ℕ → Origin
  pub unwritable_origin : ℕ → Origin

-- What holds of the meaning of every member.
pub record Sound (m : Meaning) : Type 0 where
  pub few : m.count ≤ most_blocks
  pub low : m.height ≤ 255
  -- a readable block has 512 bytes
  pub sized : (b : ℕ) (v : List ℕ) → m.block b ≡ Some v → Block v
  -- beyond the count there is nothing
  pub beyond : (b : ℕ) → m.count ≤ b → m.block b ≡ None

-- a fault that a member raises itself, at its own height and with the number asked
abbrev pub own : Meaning → Cause → ℕ → Refusal
own m c b = raised c (record { height = m.height; block = b })

-- 4 for a block that there is not, else what is refused of the block
abbrev pub on_block : Meaning → ℕ → Option Refusal → Option Refusal
on_block m b refused = cond (nat_lt b m.count) refused (Some (own m NoBlock b))

-- 5 for a buffer of n bytes that is not a block's, else what is refused of the call
abbrev pub on_buffer : Meaning → ℕ → ℕ → Option Refusal → Option Refusal
on_buffer m b n refused = cond (n == block_size) refused (Some (own m BadBuffer b))

-- The refusal of a call on block b with a buffer of n bytes that a member of this height with so many blocks gives before all others,
-- or none.
abbrev pub admission : ℕ → ℕ → ℕ → ℕ → Option Refusal
admission count height b n =
    cond (n == block_size)
    (cond (nat_lt b count) None (Some (raised NoBlock (record { height = height; block = b }))))
    (Some (raised BadBuffer (record { height = height; block = b })))

-- a number of a block that there is, and a buffer of a block's bytes, which are not refused so
pub record Good (count b n : ℕ) : Type 0 where
  pub there : b < count
  pub sized : n ≡ block_size

-- 1 where the member is gone, then 2 where the block is unreadable
abbrev pub get_refusal : Meaning → ℕ → Option Refusal
get_refusal m b =
    cond m.gone (Some (raised Gone (m.gone_origin b)))
    (cond (is_some (m.block b)) None (Some (raised Unreadable (m.unreadable_origin b))))

-- 1 where the member is gone, then 3 where the block is not writable
abbrev pub put_refusal : Meaning → ℕ → Option Refusal
put_refusal m b =
    cond m.gone (Some (raised Gone (m.gone_origin b)))
    (cond (m.writable b) None (Some (raised Unwritable (m.unwritable_origin b))))

-- the refusal of a look at block b, or none: that of a read with a good buffer
abbrev pub look_refusal : Meaning → ℕ → Option Refusal
look_refusal m b = on_block m b (get_refusal m b)

-- the refusal of a read of block b into a buffer of n bytes, or none
abbrev pub read_refusal : Meaning → ℕ → ℕ → Option Refusal
read_refusal m b n = on_buffer m b n (look_refusal m b)

-- the refusal of a write of n bytes to block b, or none
abbrev pub write_refusal : Meaning → ℕ → ℕ → Option Refusal
write_refusal m b n = on_buffer m b n (on_block m b (put_refusal m b))

-- what the buffer of a read holds after it: the block's bytes, or what it held if the read is refused
abbrev pub handed : Meaning → ℕ → List ℕ → List ℕ
handed m b old = cond (is_some (read_refusal m b (length old))) old (unwrap_or (m.block b) old)

-- what a call on block b with n bytes makes of a state: only with a block's bytes, and only at a block that there is, anything new
abbrev pub checked : {S : Type 0} → Meaning → ℕ → ℕ → S → S → S
checked m b n new old = cond (n == block_size) (cond (nat_lt b m.count) new old) old
