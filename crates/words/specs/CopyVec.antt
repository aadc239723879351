-- What a contract sees of a `CopyVec`. Assumes nothing.
use Rattle.std.specs.Prelude.{List, refl}
use Rattle.std.specs.Coded.{Coded, code_by, coded×, coded_list}

-- its items, in order, and what stands in the places behind them
pub record CopyVec (T : Type 0) : Type 0 where
  pub items : List T
  pub unused : List T

-- it is stored as these two lists
abbrev pub copy_vec_code : {T : Type 0} → Coded T → Coded (CopyVec T)
copy_vec_code {T} code =
    code_by (List T × List T) (coded× (coded_list code) (coded_list code)) (λ v. (v.items, v.unused)) (λ p. record { items = p.0; unused = p.1 }) (λ _. refl)
