-- Every run keeps the promise.
use Rattle.std.proofs.Common.{◌≡◌, ℕ, suc, ◌<◌, ◌≤◌, List, Option, subst, arith}
use Rattle.parity.specs.Stripe.{column, Holds}
use Rattle.contents.specs.Records.{frontiers}
use Rattle.contents.specs.Shapes.{Shape, Valid, data_columns, stripe}
use Rattle.contents.proofs.Losing.{losses}
use Rattle.history.specs.Calls.{State, Call, Makes}
use Rattle.history.specs.Calls.Call.{read, write}
use Rattle.history.specs.History.{Event, Run, written, LastWritten, Promise, EveryRun}
use Rattle.history.proofs.Standing.{Stands, stands}
use Rattle.history.proofs.Last.{last_of}
use Rattle.history.proofs.Handing.{hands, refused_read, differ, read_right}
use Rattle.history.proofs.Losses.{write_tells, scrub_tells, step_tells, torn}

module _ (V : Shape) (L : Valid V) (n : ℕ) (event : ℕ → Event) (state : ℕ → State) (run : Run V n event state) where
  at : (j : ℕ) → j ≤ n → Stands V (state j) (written event j)
  at = stands V L n event state run

  made : (j : ℕ) (q : Call) → j < n → (event j).call ≡ q → Makes V (state j) q (event j).answer (state (suc j))
  made j q l e = subst (λ (x : Call). Makes V (state j) x (event j).answer (state (suc j))) e (run.makes j l)

  promise : Promise V n event state
  promise = record {
    reads_last_written = λ j a b l h.
        subst (LastWritten event j a)
        (hands V L (state j) a h.0.0 (event j).answer (state (suc j)) (made j (read a h.0.0) l h.0.1) b h.1 (written event j) (at j (omega arith)).fits) (last_of event j a);
    written_fits = λ j l. (at j l).fits;
    parities_right = λ j l s t b ls _ lt e.
        subst (λ (o : Option (List ℕ)). Holds o (column V.code (data_columns V) (stripe V (written event j) s) t)) e ((at j l).fits.fits s ls t lt);
    loss_is_real = λ j a len l e h.
        differ V L (state j) a len (event j).answer (state (suc j)) (made j (read a len) l e) h (written event j) (at j (omega arith)).fits;
    read_loss_named = λ j a len t l e q m.
        (losses V (state j).members (frontiers (state j).records)).read a len t (refused_read V L (state j) a len (event j).answer (state (suc j)) (made j (read a len) l e) t q) m;
    torn_named = λ j a v t l e q m. torn V (state j) (state (suc j)) a v (event j).answer t (made j (write a v) l e) q m;
    frontiers_within = λ j i l li. (at j l).within i li;
    reads_what_is_shared = λ σ τ a r la c f m. read_right V L σ a r τ la c f m;
    write_loss = λ σ τ. write_tells V σ τ;
    scrub_loss = λ σ τ. scrub_tells V σ τ;
    step_loss = λ σ τ. step_tells V σ τ;
  }

pub every_run : EveryRun
every_run = promise
