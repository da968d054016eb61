-- What the contracts of `density_altitude` cite: the inverse of the FAA's rule with its refusals.
pub mod Inverse
