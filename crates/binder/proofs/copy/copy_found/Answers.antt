-- `binder::copy::copy_found` meets its contract. Assumes nothing.
use Rattle.std.proofs.Common.{◌≡◌, ℕ, ◌+◌, ◌^◌, ◌<◌, ◌≤◌, true, not, leb, length, sym, ◌∙◌, inl, inr, ⊎_elim, arith, leb-true}
use Rattle.words.proofs.Choice.{both_true, either_true}
use Rattle.object.specs.declared.hash_tables.Definition.{Definition}
use Rattle.scope.specs.declared.links.Link.{Link}
use Rattle.binder.specs.declared.turn.Turn.{Turn}
use Rattle.binder.specs.Steps.Relocating.{copy_fits, CopyApart}
use Rattle.binder.proofs.copy.copy_found.Goals as goal

-- what passes the tests is inside, and apart
fits_apart :
    (size : ℕ) (t : Turn) (to : ℕ) (s : Link) (d : Definition) (n : ℕ) → copy_fits size t to s d n ≡ true
    → CopyApart size (t.offset + to) (s.offset + d.value) n
unfolding copy_fits
fits_apart size t to s d n h =
    let h1 = (both_true (not d.absolute) _ h).1 in
    let h2 = (both_true (leb (d.value + n) s.span) _ h1).1 in
    let h3 = both_true _ _ h2 in
    let h4 = both_true _ _ h3.1 in (
      leb-true _ _ h3.0,
      leb-true _ _ h4.0,
      ⊎_elim (λ e. inl (leb-true _ _ e)) (λ e. inr (leb-true _ _ e)) (either_true _ _ h4.1),
    )

-- the sum fits
sum_fits : (x n size : ℕ) → x + n ≤ size → size < 2 ^ 64 → x < 2 ^ 64
sum_fits x n size h k = omega arith

pub overflow_add-s : goal.overflow_add-s
overflow_add-s c =
    let a = c.args in
    record { fits = sum_fits (a.s.offset + a.d.value) a.n (length a.arena.now) (fits_apart (length a.arena.now) a.t a.to a.s a.d a.n (sym c.copy_fits.ensures ∙ c.if-not-copy_fits.false)).1 (omega arith) }

pub copy_part-requires : goal.copy_part-requires
copy_part-requires c =
    let a = c.args in
    fits_apart (length a.arena.now) a.t a.to a.s a.d a.n (sym c.copy_fits.ensures ∙ c.if-not-copy_fits.false)
